use Rattle.std.proofs.Common.{◌+◌, ltb, slice_index}
use Rattle.std.proofs.lemmas.Bool.{lt-ltb, ltb-true}
use Rattle.final_index.proofs.OrderedBits.{behind-more, behind-start}
use Rattle.final_index.proofs.order_planes.note_behind.Goals as goal

pub loop-p-init : goal.loop-p-init
loop-p-init c = behind-start c.args.spans.now c.args.start c.args.step c.args.game c.args.words.now

pub loop-p-preserved : goal.loop-p-preserved
loop-p-preserved c =
    let p = c.loop-p.p in
    let from = c.as_slice-from.ensures.value in
    let below = c.as_slice-below.ensures.value in
    behind-more c.args.spans.now c.args.start c.args.step c.args.game c.args.words.now p c.loop-p.words c.note_if.new.words c.loop-p.invariant
    (ltb (slice_index c.as_slice-from.result.now (p + c.args.step)) (slice_index c.as_slice-below.result.now p))
    (λ test. rw (← from, ← below) (ltb-true (slice_index c.as_slice-from.result.now (p + c.args.step)) (slice_index c.as_slice-below.result.now p) test))
    (λ lt. lt-ltb (slice_index c.as_slice-from.result.now (p + c.args.step)) (slice_index c.as_slice-below.result.now p) (rw (from, below) lt))
    c.note_if.ensures
