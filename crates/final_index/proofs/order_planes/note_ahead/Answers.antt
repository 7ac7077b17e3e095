use Rattle.std.proofs.Common.{◌+◌, ltb, slice_index}
use Rattle.std.proofs.lemmas.Bool.{lt-ltb, ltb-true}
use Rattle.final_index.proofs.OrderedBits.{ahead-more, ahead-start}
use Rattle.final_index.proofs.order_planes.note_ahead.Goals as goal

pub loop-p-init : goal.loop-p-init
loop-p-init c = ahead-start c.args.spans.now c.args.start c.args.step c.args.game c.args.words.now

pub loop-p-preserved : goal.loop-p-preserved
loop-p-preserved c =
    let p = c.loop-p.p in
    let from = c.as_slice-from.ensures.value in
    let below = c.as_slice-below.ensures.value in
    ahead-more c.args.spans.now c.args.start c.args.step c.args.game c.args.words.now p c.loop-p.words c.note_if.new.words c.loop-p.invariant
    (ltb (slice_index c.as_slice-from.result.now p) (slice_index c.as_slice-below.result.now (p + c.args.step)))
    (λ test. rw (← from, ← below) (ltb-true (slice_index c.as_slice-from.result.now p) (slice_index c.as_slice-below.result.now (p + c.args.step)) test))
    (λ lt. lt-ltb (slice_index c.as_slice-from.result.now p) (slice_index c.as_slice-below.result.now (p + c.args.step)) (rw (from, below) lt))
    c.note_if.ensures
