use Rattle.std.proofs.Common.{◌≡◌, ℕ, ◌-◌, length, Some, subst, sym, ◌∙◌, ap, arith}
use Rattle.node_paths.proofs.Ancestors.{parent-lt}
use Rattle.game_tree.specs.Built.{tree_so_far}
use Rattle.game_tree.specs.Stored.{tree_node}
use Rattle.game_tree.specs.Tree.{parent_of}
use Rattle.game_tree.proofs.Climbs.{IsClimbed, IsClimbed-none, IsClimbed-more, IsClimbed-all}
use Rattle.game_tree.proofs.StoredBuilds.{grown_built, count_built, parent_built}
use Rattle.game_tree.proofs.builder.TreeBuilder.sibling_before.Goals as goal

pub returns-then-n-from-clause-none : goal.returns-then-n-from-clause-none
returns-then-n-from-clause-none c = λ _.
    omega (arith, c.if-n-from.true, c.from.ensures, c.requires.0, ap length c.as_slice-nodes.ensures.value, count_built _ _ _ _ _ c.self.view_is c.self.invariant)

pub loop-n-init : goal.loop-n-init
loop-n-init c =
    let count = count_built _ _ _ _ _ c.self.view_is c.self.invariant in
    let same : length c.args.self.now.nodes - 1 ≡ length c.as_slice-nodes.result.now - 1 = omega (arith, ap length c.as_slice-nodes.ensures.value, count) in
    subst (λ (i : ℕ). IsClimbed (tree_so_far c.args.self.now) c.args.parent i) same
    (IsClimbed-none (tree_so_far c.args.self.now) (grown_built _ _ _ _ _ c.self.view_is c.self.invariant) c.args.parent (omega (arith, c.requires.0)) c.requires.1
    (λ e. c.if-n-from.false (sym same ∙ e ∙ sym c.from.ensures)))

pub bounds-nodes-n : goal.bounds-nodes-n
bounds-nodes-n c =
    omega (arith, c.loop-n.invariant.within, ap length c.as_slice-nodes.ensures.value, count_built _ _ _ _ _ c.self.view_is c.self.invariant)

pub bounds-nodes-n-in-loop-n : goal.bounds-nodes-n-in-loop-n
bounds-nodes-n-in-loop-n c =
    omega (arith, c.loop-n.invariant.within, ap length c.as_slice-nodes.ensures.value, count_built _ _ _ _ _ c.self.view_is c.self.invariant)

parent_read : (c : goal.After-from-n) → parent_of (tree_so_far c.args.self.now) c.loop-n.n ≡ Some c.from-n.result
parent_read c =
    parent_built _ _ _ _ _ c.self.view_is c.self.invariant c.loop-n.n (omega (arith, c.loop-n.invariant.lower)) c.loop-n.invariant.within
    ∙ ap (λ (ts : _). Some (tree_node ts c.loop-n.n).parent) (sym c.as_slice-nodes.ensures.value)
    ∙ ap (λ i. Some i) (sym c.from-n.ensures)

pub loop-n-smaller : goal.loop-n-smaller
loop-n-smaller c =
    parent-lt (grown_built _ _ _ _ _ c.self.view_is c.self.invariant).parents c.loop-n.n c.from-n.result (parent_read c)

pub loop-n-preserved : goal.loop-n-preserved
loop-n-preserved c =
    IsClimbed-more (tree_so_far c.args.self.now) (grown_built _ _ _ _ _ c.self.view_is c.self.invariant) c.args.parent c.loop-n.n c.loop-n.invariant c.from-n.result (parent_read c)
    (λ e. c.loop-n-test.true (sym c.from-n.ensures ∙ e))

pub returns-clause-some : goal.returns-clause-some
returns-clause-some c =
    let parent =
    parent_built _ _ _ _ _ c.self.view_is c.self.invariant c.loop-n.n (omega (arith, c.loop-n.invariant.lower)) c.loop-n.invariant.within
    ∙ ap (λ (ts : _). Some (tree_node ts c.loop-n.n).parent) (sym c.as_slice-nodes.ensures.value)
    ∙ ap (λ i. Some i) c.loop-n-test.false in
    (c.loop-n.invariant.within, parent, IsClimbed-all (tree_so_far c.args.self.now) (grown_built _ _ _ _ _ c.self.view_is c.self.invariant) c.args.parent c.loop-n.n c.loop-n.invariant parent)
