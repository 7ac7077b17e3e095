-- One point more.
use Rattle.std.proofs.Common.{◌+◌, ◌≡◌, ◌∙◌, false, ap, arith, sym}
use Rattle.std.specs.Prelude.{length, slice_index_or}
use Rattle.ready_images.specs.Wants.{no_want}
use Rattle.capture_index.specs.Times.{is_many, told_by}
use Rattle.capture_index.proofs.CellsWanted.{of-empty}
use Rattle.capture_index.proofs.Narrowing.{emptied-end, emptied-listed, emptied-more, emptied-none, emptied-start, listed-told}
use Rattle.capture_index.proofs.packed_runs.PackedRuns.with_empties.Goals as goal

pub loop-k-init : goal.loop-k-init
loop-k-init c = emptied-start c.args.self.now c.args.base c.args.class.wants.now c.args.class.empties c.args.left c.packed-earliest.result c.requires.left c.packed-earliest.ensures

pub loop-k-preserved-then-is_many : goal.loop-k-preserved-then-is_many
loop-k-preserved-then-is_many c =
    let index = c.args.self.now in
    let base = c.args.base in
    let wants = c.args.class.wants.now in
    let empties = c.args.class.empties in
    let k = c.loop-k.k in
    let p = base + (slice_index_or wants k no_want).offset in
    let is = c.unpack.ensures ∙ ap told_by c.time_behind-time.ensures in
    emptied-listed index base wants empties k c.loop-k.auto.k c.loop-k-test.true c.loop-k.earliest c.loop-k.listed c.loop-k.invariant c.with-listed.result
    (listed-told index p c.unpack.result is ∙ sym c.is_many.ensures ∙ c.if-is_many.true) c.with-listed.ensures.first c.with-listed.ensures.end

pub returns-then-has_stone_at-clause-none : goal.returns-then-has_stone_at-clause-none
returns-then-has_stone_at-clause-none c =
    let index = c.args.self.now in
    let base = c.args.base in
    let wants = c.args.class.wants.now in
    let empties = c.args.class.empties in
    let k = c.loop-k.k in
    let p = base + (slice_index_or wants k no_want).offset in
    let few : is_many (told_by c.time_behind-time.result) ≡ false = ap is_many (sym c.unpack.ensures) ∙ sym c.is_many.ensures ∙ c.if-is_many.false in
    emptied-none index base wants empties k c.loop-k.auto.k c.loop-k-test.true c.loop-k.earliest c.loop-k.listed c.loop-k.invariant (of-empty (slice_index_or wants k no_want) (c.args.class.parted.of_empties k c.loop-k.auto.k c.loop-k-test.true)) c.time_behind-time.result c.time_behind-time.ensures few
    c.args.left c.requires.left (c.has_stone_at.ensures.0 c.if-has_stone_at.true)

pub loop-k-preserved : goal.loop-k-preserved
loop-k-preserved c =
    let index = c.args.self.now in
    let base = c.args.base in
    let wants = c.args.class.wants.now in
    let empties = c.args.class.empties in
    let k = c.loop-k.k in
    let p = base + (slice_index_or wants k no_want).offset in
    let few : is_many (told_by c.time_behind-time.result) ≡ false = ap is_many (sym c.unpack.ensures) ∙ sym c.is_many.ensures ∙ c.if-is_many.false in
    emptied-more index base wants empties k c.loop-k.auto.k c.loop-k-test.true c.loop-k.earliest c.loop-k.listed c.loop-k.invariant (of-empty (slice_index_or wants k no_want) (c.args.class.parted.of_empties k c.loop-k.auto.k c.loop-k-test.true)) c.time_behind-time.result c.time_behind-time.ensures few
    c.earlier_of-earliest.result c.earlier_of-earliest.ensures

pub returns-clause-some : goal.returns-clause-some
returns-clause-some c =
    let all : c.loop-k.k ≡ length c.args.class.wants.now = omega (arith, c.args.class.parted.within, c.loop-k-test.false) in
    emptied-end c.args.self.now c.args.base c.args.class.wants.now c.args.class.empties c.args.left c.loop-k.k c.loop-k.earliest c.loop-k.listed c.end_before-to.result c.requires.left c.loop-k.invariant all c.end_before-to.ensures
