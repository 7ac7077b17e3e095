use Rattle.std.proofs.Common.{arith, refl}
use Rattle.run_audit.proofs.CourseEnds.{names-sorted, sorted-more}
use Rattle.run_audit.proofs.course.sort_names.Goals as goal

pub loop-import-preserved : goal.loop-import-preserved
loop-import-preserved c =
    sorted-more c.args.shown.now c.loop-import.shown c.loop-import.import-index c.import-item.result _ c.loop-import.invariant (omega (arith, c.loop-import-test.true, c.loop-import.auto.shown))
    (names-sorted _ _ refl refl c.sort_unstable.ensures.permutation c.sort_unstable.ensures.sorted)

pub returns-clause-sorted : goal.returns-clause-sorted
returns-clause-sorted c = λ at d below. c.loop-import.invariant.sorted at d (omega (arith, below, c.loop-import-test.false)) below
