-- One stone more.
use Rattle.kb_geometry.specs.declared.stone.Cell.TheVariants as stone
use Rattle.capture_index.specs.Stretches.{is_wanted}
use Rattle.std.proofs.Common.{Bool, ◌+◌, ◌<◌, ◌≡◌, ◌∙◌, false, ap, arith, subst, sym}
use Rattle.std.specs.Prelude.{length, slice_index_or}
use Rattle.ready_images.specs.Wants.{no_want}
use Rattle.capture_index.specs.Times.{IsColourTold, is_many, told_by}
use Rattle.capture_index.proofs.CellsWanted.{of-stone}
use Rattle.capture_index.proofs.Narrowing.{listed-told, stones-end, stones-listed, stones-more, stones-none, stones-start}
use Rattle.capture_index.proofs.packed_runs.PackedRuns.with_stones.Goals as goal

pub loop-k-init : goal.loop-k-init
loop-k-init c = stones-start c.args.self.now c.args.base c.args.class.wants.now c.at_root-latest.result _ c.at_root-latest.ensures

pub loop-k-preserved-then-is_many : goal.loop-k-preserved-then-is_many
loop-k-preserved-then-is_many c =
    let index = c.args.self.now in
    let base = c.args.base in
    let wants = c.args.class.wants.now in
    let k = c.loop-k.k in
    let p = base + (slice_index_or wants k no_want).offset in
    let lt : k < length wants = omega (arith, c.loop-k-test.true, c.args.class.parted.ordered, c.args.class.parted.within) in
    let is = c.unpack.ensures ∙ ap told_by c.time_behind-time.ensures in
    stones-listed index base wants k lt c.loop-k.latest c.loop-k.listed c.loop-k.invariant c.with-listed.result
    (listed-told index p c.unpack.result is ∙ sym c.is_many.ensures ∙ c.if-is_many.true) c.with-listed.ensures.first c.with-listed.ensures.end

pub returns-then-not-has_colour-clause-none : goal.returns-then-not-has_colour-clause-none
returns-then-not-has_colour-clause-none c =
    let index = c.args.self.now in
    let base = c.args.base in
    let wants = c.args.class.wants.now in
    let k = c.loop-k.k in
    let p = base + (slice_index_or wants k no_want).offset in
    let lt : k < length wants = omega (arith, c.loop-k-test.true, c.args.class.parted.ordered, c.args.class.parted.within) in
    let is = c.unpack.ensures ∙ ap told_by c.time_behind-time.ensures in
    let few : is_many (told_by c.time_behind-time.result) ≡ false = ap is_many (sym c.unpack.ensures) ∙ sym c.is_many.ensures ∙ c.if-is_many.false in
    stones-none index base wants k lt c.loop-k.latest c.loop-k.listed c.loop-k.invariant (of-stone (slice_index_or wants k no_want) (c.args.class.parted.of_stones k c.loop-k-test.true)) c.time_behind-time.result c.time_behind-time.ensures few
    (subst (λ (b : Bool). IsColourTold (is_wanted (slice_index_or wants k no_want) stone.White) b (told_by c.time_behind-time.result)) c.if-not-has_colour.true (subst (λ (a : Bool). IsColourTold a c.has_colour.result (told_by c.time_behind-time.result)) c.is_wanted.ensures c.has_colour.ensures))

pub loop-k-preserved : goal.loop-k-preserved
loop-k-preserved c =
    let index = c.args.self.now in
    let base = c.args.base in
    let wants = c.args.class.wants.now in
    let k = c.loop-k.k in
    let p = base + (slice_index_or wants k no_want).offset in
    let lt : k < length wants = omega (arith, c.loop-k-test.true, c.args.class.parted.ordered, c.args.class.parted.within) in
    let is = c.unpack.ensures ∙ ap told_by c.time_behind-time.ensures in
    let few : is_many (told_by c.time_behind-time.result) ≡ false = ap is_many (sym c.unpack.ensures) ∙ sym c.is_many.ensures ∙ c.if-is_many.false in
    stones-more index base wants k lt c.loop-k.latest c.loop-k.listed c.loop-k.invariant (of-stone (slice_index_or wants k no_want) (c.args.class.parted.of_stones k c.loop-k-test.true)) c.time_behind-time.result c.time_behind-time.ensures few c.later_of-latest.result
    (subst (λ (b : Bool). IsColourTold (is_wanted (slice_index_or wants k no_want) stone.White) b (told_by c.time_behind-time.result)) c.if-not-has_colour.false (subst (λ (a : Bool). IsColourTold a c.has_colour.result (told_by c.time_behind-time.result)) c.is_wanted.ensures c.has_colour.ensures)) c.later_of-latest.ensures

pub returns-clause-some : goal.returns-clause-some
returns-clause-some c =
    let all : c.loop-k.k ≡ c.args.class.mixed = omega (arith, c.loop-k-test.false) in
    stones-end c.args.self.now c.args.base c.args.class.wants.now c.loop-k.k c.args.class.mixed c.loop-k.latest c.loop-k.listed c.begin_before-from.result c.args.self.now.nodes c.loop-k.invariant all (omega arith) c.begin_before-from.ensures
