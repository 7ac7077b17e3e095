-- One point more.
use Rattle.std.proofs.Common.{ap, arith}
use Rattle.kb_geometry.specs.Board.{point_count}
use Rattle.line_matcher.proofs.StartLists.{HaveStartsTo-end, HaveStartsTo-more}
use Rattle.line_matcher.proofs.starts.starts.Goals as goal

pub loop-p-preserved : goal.loop-p-preserved
loop-p-preserved c =
    HaveStartsTo-more c.args.images.now c.loop-p.p c.loop-p.next c.next_start-next.result c.loop-p.starts.items c.push.new.self.items c.loop-p.invariant c.next_start-next.ensures c.in_ok-push.ensures.items

pub returns-clause-starts : goal.returns-clause-starts
returns-clause-starts c =
    HaveStartsTo-end c.args.images.now c.shape.ensures.images c.loop-p.p c.loop-p.next c.loop-p.starts.items c.loop-p.invariant (omega (arith, c.count-points.ensures, ap point_count c.shape.ensures.value))
