use Rattle.std.proofs.Common.{◌≡◌, ℕ, ◌∙◌, ap, arith}
use Rattle.std.specs.Prelude.{is_some}
use mir.Val.{bool_byte}
use Rattle.game_tree.specs.declared.stored.TreeNode.{TreeNode}
use Rattle.kb_geometry.specs.Counts.{one_if}
use Rattle.game_tree.specs.Stored.{tree_node}
use Rattle.game_tree.proofs.StoredTrees.{bool_byte-one_if, node_read, tree_shown, within_shown, move_number_shown}
use Rattle.game_tree.proofs.Paths.{move_number-le}
use Rattle.game_tree.proofs.Trees.{IsGrown-tree}
use Rattle.game_tree.proofs.tree.GameTree.move_number.Goals as goal

pub index-requires : goal.index-requires
index-requires c = omega (arith, c.self.inside.nodes.ok.0, within_shown _ _ _ _ _ _ c.self.view_is c.self.invariant c.args.n c.requires)

pub returns : goal.returns
returns c =
    let within = within_shown _ _ _ _ _ _ c.self.view_is c.self.invariant c.args.n c.requires in
    let node = node_read _ c.args.n _ within c.index.ensures in
    let above = ap (λ (t : TreeNode). t.moves_above) node in
    let own : ◌≡◌ {A = ℕ} c.from-2.result (one_if (is_some (tree_node c.self.inside.nodes.items c.args.n).played)) =
    c.from-2.ensures ∙ ap (λ b. bool_byte b) (c.is_some.ensures ∙ ap (λ (t : TreeNode). is_some t.played) node) ∙ bool_byte-one_if _ in
    omega (arith, above, own, c.from.ensures, move_number_shown _ _ _ _ _ _ c.self.view_is c.self.invariant c.args.n c.requires)

pub overflow_add-result : goal.overflow_add-result
overflow_add-result c =
    let grown = IsGrown-tree c.args.self.now (tree_shown _ _ _ _ _ _ c.self.view_is c.self.invariant) in
    omega (arith, returns c, move_number-le c.args.self.now grown c.args.n, c.ranges.n, grown.most, c.requires)
