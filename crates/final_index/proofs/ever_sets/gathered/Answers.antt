use Rattle.std.proofs.Common.{ℕ, ◌≡◌, List, subst, arith}
use Rattle.kb_geometry.specs.declared.stone.Change.{Change}
use Rattle.capture_board.specs.Deltas.{node_count}
use Rattle.final_index.specs.Gathering.{AreAdded, AreGathered}
use Rattle.final_index.proofs.GatheredNodes.{AreGathered-more, within_most}
use Rattle.final_index.proofs.ever_sets.gathered.Goals as goal

pub add-requires : goal.add-requires
add-requires c =
    within_most c.args.deltas.now c.changes.ensures.deltas c.loop-n.n (omega (arith, c.loop-n-test.true, c.node_count-count.ensures.value)) c.changes.result.now c.changes.ensures.value

pub loop-n-preserved : goal.loop-n-preserved
loop-n-preserved c =
    AreGathered-more c.args.deltas.now c.changes.ensures.deltas c.loop-n.n (omega (arith, c.loop-n.auto.n)) (omega (arith, c.loop-n-test.true, c.node_count-count.ensures.value))
    c.loop-n.sets c.add.new.self c.loop-n.invariant
    (subst (λ (cs : List Change). AreAdded c.loop-n.sets cs c.add.new.self) c.changes.ensures.value c.add.ensures)

pub returns : goal.returns
returns c =
    let all : c.loop-n.n ≡ node_count c.args.deltas.now = omega (arith, c.loop-n-test.false, c.loop-n.auto.n-end, c.node_count-count.ensures.value) in
    subst (λ (n : ℕ). AreGathered c.args.deltas.now n c.loop-n.sets) all c.loop-n.invariant
