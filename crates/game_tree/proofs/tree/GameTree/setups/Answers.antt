use Rattle.std.proofs.Common.{ℕ, length, ◌∙◌, ap, arith}
use Rattle.std.specs.List.{between}
use Rattle.game_tree.specs.Stored.{tree_node, setups_start}
use Rattle.game_tree.proofs.StoredTrees.{within_shown, setups_shown, setups_on_board}
use Rattle.game_tree.proofs.tree.GameTree.setups.Goals as goal

pub setups_start-start-requires : goal.setups_start-start-requires
setups_start-start-requires c =
    omega (arith, ap length c.as_slice-nodes.ensures.value, within_shown _ _ _ _ _ _ c.self.view_is c.self.invariant c.args.n c.requires)

pub bounds-nodes-n : goal.bounds-nodes-n
bounds-nodes-n c =
    omega (arith, ap length c.as_slice-nodes.ensures.value, within_shown _ _ _ _ _ _ c.self.view_is c.self.invariant c.args.n c.requires)

pub slice_bounds-result-count : goal.slice_bounds-result-count
slice_bounds-result-count c =
    let within = within_shown _ _ _ _ _ _ c.self.view_is c.self.invariant c.args.n c.requires in
    let same = c.as_slice-nodes.ensures.value in
    omega (arith, c.setups_start-start.ensures, ap (λ (ts : _). setups_start ts c.args.n) same, ap (λ (ts : _). (tree_node ts c.args.n).setups_end) same, c.self.invariant.ends.starts c.args.n within)

pub slice_bounds-result-start : goal.slice_bounds-result-start
slice_bounds-result-start c =
    let within = within_shown _ _ _ _ _ _ c.self.view_is c.self.invariant c.args.n c.requires in
    let same = c.as_slice-nodes.ensures.value in
    omega (arith, c.setups_start-start.ensures, ap (λ (ts : _). setups_start ts c.args.n) same, ap (λ (ts : _). (tree_node ts c.args.n).setups_end) same, c.self.invariant.ends.starts c.args.n within)

pub returns-clause-value : goal.returns-clause-value
returns-clause-value c =
    let same = c.as_slice-nodes.ensures.value in
    ap (λ (ss : _). between c.setups_start-start.result (tree_node c.as_slice-nodes.result.now c.args.n).setups_end ss) c.deref.ensures.value
    ∙ ap (λ (n : ℕ). between n (tree_node c.as_slice-nodes.result.now c.args.n).setups_end c.self.inside.setups.items) c.setups_start-start.ensures
    ∙ ap (λ (ts : _). between (setups_start ts c.args.n) (tree_node ts c.args.n).setups_end c.self.inside.setups.items) same
    ∙ setups_shown _ _ _ _ _ _ c.self.view_is c.self.invariant c.args.n c.requires

pub returns-clause-on_board : goal.returns-clause-on_board
returns-clause-on_board c = setups_on_board _ _ _ _ _ _ c.self.view_is c.self.invariant c.args.n _ c.requires (returns-clause-value c)

pub offset_bounds-deref-start : goal.offset_bounds-deref-start
offset_bounds-deref-start c = omega (arith, slice_bounds-result-count c)
