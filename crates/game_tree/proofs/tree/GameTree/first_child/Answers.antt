use Rattle.std.proofs.Common.{◌+◌, length, sym, ◌∙◌, ap, arith}
use Rattle.game_tree.specs.Stored.{tree_node}
use Rattle.game_tree.proofs.StoredTrees.{count_shown, first_child_shown, first_child_is, other_child_shown, last_node_shown}
use Rattle.game_tree.proofs.tree.GameTree.first_child.Goals.{else-next-nodes-via-then-next-nodes+else-from-n, else-next-nodes-via-else-next-nodes}
use Rattle.game_tree.proofs.tree.GameTree.first_child.Goals as goal

pub returns-then-from-n-clause-child : goal.returns-then-from-n-clause-child
returns-then-from-n-clause-child c =
    let same = c.as_slice-nodes.ensures.value in
    first_child_shown _ _ _ _ _ _ c.self.view_is c.self.invariant c.args.n (c.args.n + 1) (omega arith)
    (omega (arith, ap length same, c.if-next-nodes.true))
    (sym (ap (λ (ts : _). (tree_node ts (c.args.n + 1)).parent) same) ∙ sym c.from.ensures ∙ c.if-from-n.true)

pub returns-then-from-n-clause-value : goal.returns-then-from-n-clause-value
returns-then-from-n-clause-value c = first_child_is _ _ _ _ _ _ c.self.view_is c.self.invariant c.args.n (returns-then-from-n-clause-child c)

pub returns-then-from-n-clause-in_range : goal.returns-then-from-n-clause-in_range
returns-then-from-n-clause-in_range c =
    let same = c.as_slice-nodes.ensures.value in
    (omega arith, omega (arith, ap length same, c.if-next-nodes.true, count_shown _ _ _ _ _ _ c.self.view_is c.self.invariant))

pub returns-else-next-nodes-clause-value : goal.returns-else-next-nodes-clause-value
returns-else-next-nodes-clause-value c =
    let same = c.as_slice-nodes.ensures.value in
    elim c.else-next-nodes.branch [
      | else-next-nodes-via-then-next-nodes+else-from-n w ↦
          other_child_shown _ _ _ _ _ _ c.self.view_is c.self.invariant c.args.n
          (omega (arith, ap length same, w.if-next-nodes.true))
          (λ e. w.if-from-n.false (w.from.ensures ∙ ap (λ (ts : _). (tree_node ts (c.args.n + 1)).parent) same ∙ e))
      | else-next-nodes-via-else-next-nodes w ↦
          last_node_shown _ _ _ _ _ _ c.self.view_is c.self.invariant c.args.n (omega (arith, ap length same, w.if-next-nodes.false))
    ]
