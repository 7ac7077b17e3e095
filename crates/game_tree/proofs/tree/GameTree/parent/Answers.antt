use Rattle.std.proofs.Common.{Some, sym, ◌∙◌, ap, arith}
use Rattle.node_paths.proofs.Ancestors.{parent-lt}
use Rattle.game_tree.specs.declared.stored.TreeNode.{TreeNode}
use Rattle.game_tree.proofs.StoredTrees.{node_read, tree_shown, within_shown, parent_shown}
use Rattle.game_tree.proofs.Trees.{IsGrown-tree}
use Rattle.game_tree.proofs.tree.GameTree.parent.Goals as goal

pub index-requires : goal.index-requires
index-requires c = omega (arith, c.self.inside.nodes.ok.0, within_shown _ _ _ _ _ _ c.self.view_is c.self.invariant c.args.n c.requires)

pub returns-else-n-eq0-clause-value : goal.returns-else-n-eq0-clause-value
returns-else-n-eq0-clause-value c =
    let within = within_shown _ _ _ _ _ _ c.self.view_is c.self.invariant c.args.n c.requires in
    ap (λ i. Some i) (c.from.ensures ∙ ap (λ (t : TreeNode). t.parent) (node_read _ c.args.n _ within c.index.ensures))
    ∙ parent_shown _ _ _ _ _ _ c.self.view_is c.self.invariant c.args.n c.if-n-eq0.false c.requires

pub returns-else-n-eq0-clause-before : goal.returns-else-n-eq0-clause-before
returns-else-n-eq0-clause-before c =
    parent-lt (IsGrown-tree c.args.self.now (tree_shown _ _ _ _ _ _ c.self.view_is c.self.invariant)).parents c.args.n c.from.result
    (sym (returns-else-n-eq0-clause-value c))
