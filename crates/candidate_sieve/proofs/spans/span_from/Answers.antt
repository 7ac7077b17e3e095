use Rattle.candidate_sieve.proofs.SpansSieved.{span-next, span-start}
use Rattle.candidate_sieve.proofs.spans.span_from.Goals as goal

pub loop-end-init : goal.loop-end-init
loop-end-init c = span-start c.args.rows.now c.args.first c.requires

pub loop-end-preserved : goal.loop-end-preserved
loop-end-preserved c =
    let behind = c.is_behind.ensures c.if-is_behind.true in
    span-next c.args.rows.now c.args.first c.loop-end.end c.loop-end.invariant c.loop-end-test.true behind.0 behind.1
