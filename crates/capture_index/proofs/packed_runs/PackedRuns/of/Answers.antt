use Rattle.std.proofs.Common.{ℕ, ◌≡◌, ap, ◌∙◌, subst, arith}
use Rattle.capture_board.specs.Deltas.{node_count}
use Rattle.capture_index.specs.Branches.{AreBranchesTo}
use Rattle.kb_geometry.specs.Board.{point_count}
use Rattle.capture_index.proofs.Branchings.{AreBranchesTo-none}
use Rattle.capture_index.proofs.Steps.{AreBuilt-none}
use Rattle.capture_index.proofs.packed_runs.PackedRuns.of.Goals as goal

pub loop-n-init : goal.loop-n-init
loop-n-init c = (AreBuilt-none c.args.deltas.now c.count.result c.in_ok-growing.growing (c.count.ensures.value ∙ ap point_count c.shape.ensures.value) c.in_ok-growing.ensures, AreBranchesTo-none c.args.deltas.now _ c.new-branches.ensures.items)

pub pack-requires-clause-branches : goal.pack-requires-clause-branches
pack-requires-clause-branches c =
    let all : c.loop-n.n ≡ node_count c.args.deltas.now = omega (arith, c.node_count-n-end.ensures.value) in
    subst (λ (i : ℕ). AreBranchesTo c.args.deltas.now i c.loop-n.branches.items) all c.loop-n.invariant.1
