use Rattle.std.proofs.Common.{◌∙◌, ap, arith}
use Rattle.game_tree.specs.declared.stored.TreeNode.{TreeNode}
use Rattle.game_tree.proofs.StoredTrees.{node_read, within_shown, played_shown, played_on_board}
use Rattle.game_tree.proofs.tree.GameTree.played.Goals as goal

pub index-requires : goal.index-requires
index-requires c = omega (arith, c.self.inside.nodes.ok.0, within_shown _ _ _ _ _ _ c.self.view_is c.self.invariant c.args.n c.requires)

pub returns-clause-value : goal.returns-clause-value
returns-clause-value c =
    let within = within_shown _ _ _ _ _ _ c.self.view_is c.self.invariant c.args.n c.requires in
    ap (λ (t : TreeNode). t.played) (node_read _ c.args.n _ within c.index.ensures)
    ∙ played_shown _ _ _ _ _ _ c.self.view_is c.self.invariant c.args.n c.requires

pub returns-clause-on_board : goal.returns-clause-on_board
returns-clause-on_board c = played_on_board _ _ _ _ _ _ c.self.view_is c.self.invariant c.args.n _ c.requires (returns-clause-value c)
