use Rattle.std.proofs.Common.{sym, ◌∙◌, ap, arith}
use Rattle.game_tree.specs.declared.stored.TreeNode.{TreeNode}
use Rattle.game_tree.proofs.StoredTrees.{node_read, within_shown, next_sibling_shown, no_sibling_shown}
use Rattle.game_tree.proofs.Trees.{next_sibling-facts}
use Rattle.game_tree.proofs.tree.GameTree.next_sibling.Goals as goal

pub index-requires : goal.index-requires
index-requires c = omega (arith, c.self.inside.nodes.ok.0, within_shown _ _ _ _ _ _ c.self.view_is c.self.invariant c.args.n c.requires)

pub returns-then-next-eq0-clause-value : goal.returns-then-next-eq0-clause-value
returns-then-next-eq0-clause-value c =
    let within = within_shown _ _ _ _ _ _ c.self.view_is c.self.invariant c.args.n c.requires in
    no_sibling_shown _ _ _ _ _ _ c.self.view_is c.self.invariant c.args.n c.requires
    (sym (ap (λ (t : TreeNode). t.next_sibling) (node_read _ c.args.n _ within c.index.ensures)) ∙ c.if-next-eq0.true)

pub returns-else-next-eq0-clause-value : goal.returns-else-next-eq0-clause-value
returns-else-next-eq0-clause-value c =
    let within = within_shown _ _ _ _ _ _ c.self.view_is c.self.invariant c.args.n c.requires in
    next_sibling_shown _ _ _ _ _ _ c.self.view_is c.self.invariant c.args.n c.from.result c.requires
    (sym (ap (λ (t : TreeNode). t.next_sibling) (node_read _ c.args.n _ within c.index.ensures)) ∙ sym c.from.ensures)
    (λ e. c.if-next-eq0.false (sym c.from.ensures ∙ e))

pub returns-else-next-eq0-clause-in_range : goal.returns-else-next-eq0-clause-in_range
returns-else-next-eq0-clause-in_range c =
    let facts = next_sibling-facts c.args.self.now c.args.n c.from.result (sym (returns-else-next-eq0-clause-value c)) in
    (facts.0, facts.1)

pub returns-else-next-eq0-clause-sibling : goal.returns-else-next-eq0-clause-sibling
returns-else-next-eq0-clause-sibling c =
    let facts = next_sibling-facts c.args.self.now c.args.n c.from.result (sym (returns-else-next-eq0-clause-value c)) in
    facts.2
