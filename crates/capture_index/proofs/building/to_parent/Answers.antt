use Rattle.std.proofs.Common.{sym}
use Rattle.capture_index.proofs.Branchings.{AreBranchesTo-pass, AreBranchesTo-push, parent-before, parent-there}
use Rattle.capture_index.proofs.Steps.{at_parent, parent-above, root-before}
use Rattle.capture_index.proofs.building.to_parent.Goals as goal

pub returns-in_default-clause-made : goal.returns-in_default-clause-made
returns-in_default-clause-made c =
    at_parent c.args.deltas.now c.parent.ensures.deltas c.args.n c.args.growing.now _ c.requires.built (root-before c.args.deltas.now c.parent.ensures.deltas c.args.n c.args.growing.now c.args.n c.requires.in_range c.in_default.ensures.value)

pub go_back-requires-clause-above : goal.go_back-requires-clause-above
go_back-requires-clause-above c = parent-above c.args.deltas.now c.parent.ensures.deltas c.args.n c.args.growing.now c.args.n c.in-Some.parent c.requires.in_range c.in-Some.ensures.value

pub returns-in_default-clause-branches : goal.returns-in_default-clause-branches
returns-in_default-clause-branches c = AreBranchesTo-pass c.args.deltas.now c.args.n c.args.branches.now.items (parent-there c.args.deltas.now c.parent.ensures.deltas c.args.n c.requires.in_range c.in_default.ensures.value)

pub returns-then-parent-n-clause-branches : goal.returns-then-parent-n-clause-branches
returns-then-parent-n-clause-branches c = AreBranchesTo-pass c.args.deltas.now c.args.n c.args.branches.now.items (λ low. parent-before c.args.deltas.now c.args.n c.in-Some.parent c.in-Some.ensures.value c.if-parent-n.true)

pub returns-clause-branches : goal.returns-clause-branches
returns-clause-branches c = AreBranchesTo-push c.args.deltas.now c.args.n c.in-Some.parent c.args.branches.now.items c.push.new.self.items (sym c.in-Some.ensures.value) c.in_ok-push.ensures.items
