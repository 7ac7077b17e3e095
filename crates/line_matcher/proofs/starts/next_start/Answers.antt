-- The placements stand in order of their upper left points.
use Rattle.std.proofs.Common.{below_more, arith}
use Rattle.line_matcher.proofs.StartLists.{SplitsAt-here}
use Rattle.line_matcher.proofs.starts.next_start.Goals as goal

pub loop-i-preserved : goal.loop-i-preserved
loop-i-preserved c = below_more _ _ c.loop-i.invariant (omega arith)

pub returns-then-corner_of-p : goal.returns-then-corner_of-p
returns-then-corner_of-p c =
    SplitsAt-here c.args.images.now c.len-i-end.ensures.images c.args.p c.loop-i.i (omega arith) c.loop-i.invariant (omega arith)
