-- One list more.
use Rattle.std.proofs.Common.{arith}
use Rattle.capture_index.proofs.Narrowing.{lists-end, lists-more, lists-none, lists-skip, lists-start}
use Rattle.capture_index.proofs.packed_runs.PackedRuns.left_by_lists.Goals as goal

pub loop-k-init : goal.loop-k-init
loop-k-init c = lists-start c.args.self.now c.args.base c.args.wants.now c.args.left c.requires.left c.requires.some

pub loop-k-preserved-in_default : goal.loop-k-preserved-in_default
loop-k-preserved-in_default c =
    lists-skip c.args.self.now c.args.base c.args.wants.now c.loop-k.k (omega (arith, c.loop-k-test.true, c.requires.left.within)) c.loop-k.hull c.loop-k.invariant c.in_default.ensures.none

pub returns-in_default-with_runs-clause-none : goal.returns-in_default-with_runs-clause-none
returns-in_default-with_runs-clause-none c =
    lists-none c.args.self.now c.args.base c.args.wants.now c.loop-k.k (omega (arith, c.loop-k-test.true, c.requires.left.within)) c.loop-k.hull c.loop-k.invariant c.in-Some.runs.now c.in-Some.ensures.some.1 c.in_default-with_runs.ensures.none

pub loop-k-preserved : goal.loop-k-preserved
loop-k-preserved c =
    lists-more c.args.self.now c.args.base c.args.wants.now c.loop-k.k (omega (arith, c.loop-k-test.true, c.requires.left.within)) c.loop-k.hull c.loop-k.invariant c.in-Some.runs.now c.in-Some.ensures.some.1 c.in-Some-with_runs.next c.in-Some-with_runs.ensures.some c.in-Some-with_runs.ensures.whole

pub returns-clause-some : goal.returns-clause-some
returns-clause-some c = lists-end c.args.self.now c.args.base c.args.wants.now c.args.left c.loop-k.k c.loop-k.hull c.requires.left (omega (arith, c.loop-k-test.false)) c.loop-k.invariant
