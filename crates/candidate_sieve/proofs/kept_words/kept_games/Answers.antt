use Rattle.std.proofs.Common.{◌≡◌, ◌↔◌, ℕ, ◌+◌, ◌<◌, List, ap, arith, bit_and, length, slice_index, subst, subst₂, sym, ◌∙◌}
use Rattle.std.specs.Int.{bit_at, bit_not, w64}
use Rattle.capture_board.specs.Deltas.{Deltas}
use Rattle.pattern_images.specs.ImageList.{grid_at}
use Rattle.ready_images.specs.declared.row.Row.{Row}
use Rattle.ready_images.specs.Rows.{AreRowsOf, EndAt, row_at}
use Rattle.ready_images.specs.Wants.{AreWantsOf}
use Rattle.ready_images.proofs.PlacementLists.{end-none, end-once}
use Rattle.final_index.specs.Planes.{PlaneGames}
use Rattle.candidate_sieve.specs.BlockGames.{HaveEach}
use Rattle.candidate_sieve.specs.KeptWords.{HasNumbers, IsMetInRows}
use Rattle.candidate_sieve.proofs.KeptRows.{AreKeptTo, kept-all, kept-early, kept-start}
use Rattle.candidate_sieve.proofs.SpansKept.{kept-span}
use Rattle.candidate_sieve.proofs.kept_words.kept_games.Goals as goal

pub loop-next-init : goal.loop-next-init
loop-next-init c = (0, omega arith, end-none c.rows-rows.result.now, kept-start c.args.ready.now.images c.args.planes.now c.args.corners.now c.args.ready.now.numbers)

pub loop-next-preserved : goal.loop-next-preserved
loop-next-preserved c =
    let images = c.args.ready.now.images in
    let numbers = c.args.ready.now.numbers in
    let planes = c.args.planes.now in
    let corners = c.args.corners.now in
    let rows = c.rows-rows.result.now in
    let value = sym c.rows-rows.ensures.value in
    let begin = c.span_from-span.ensures.begin in
    let made = subst (AreRowsOf images numbers) value c.rows-rows.ensures.are in
    let kept = c.loop-next.kept in
    let next = c.loop-next.next in
    let span = c.span_from-span.ensures.are in
    let end = c.span_from-span.result.end in
    let sieve = c.span_sieve.result in
    let wants = sieve.wants.now in
    let words = c.deref.result.now in
    let met = c.met_in_rows-kept.result in
    let left = bit_and c.present-present.result (bit_not w64 kept) in
    let long : length words ≡ sieve.count = ap length c.deref.ensures.value ∙ c.in_ok-fill_room.ensures.count in
    let base : sieve.base ≡ (row_at rows next).base = c.span_sieve.ensures.base ∙ ap (λ (n : ℕ). (row_at c.args.ready.now.rows n).base) begin ∙ ap (λ (rs : List Row). (row_at rs next).base) value in
    let are = subst₂ (λ (rs : List Row) (f : ℕ). AreWantsOf images.shape (grid_at images.grids (row_at rs f).class) wants) value begin c.span_sieve.ensures.wants in
    let to_end = subst (λ (rs : List Row). (q : ℕ) → end ≡ q + 1 → sieve.base + sieve.count ≡ (row_at rs q).base + (row_at rs q).count) value c.span_sieve.ensures.to_end in
    let all = kept-span images planes corners numbers c.present-present.result c.present-present.ensures c.rows-rows.ensures.images c.requires.shape rows made next end span wants are kept c.loop-next.auto.kept-fits.fits
    words (λ q is. omega (arith, to_end q is, base, long))
    (λ k lt.
    let room = c.in_ok-fill_room.ensures.games k (omega (arith, lt, long)) in
    subst₂ (λ (b : ℕ) (ws : List ℕ). HaveEach planes.games (b + k) wants left (length wants) (slice_index ws k)) base (sym c.deref.ensures.value)
    (subst (λ (p : PlaneGames). HaveEach p.games (sieve.base + k) wants left (length wants) (slice_index c.fill_room.new.room.items k)) c.span_sieve.ensures.planes room))
    met
    (subst₂ (λ (rs : List Row) (f : ℕ). (g : ℕ) (changes : Deltas) → g < 64 → changes.shape ≡ images.shape → HasNumbers corners g changes → (bit_at met g ≡ 1) ↔ IsMetInRows images.placements rs numbers words f end g changes) value begin c.met_in_rows-kept.ensures.exact)
    c.met_in_rows-kept.ensures.among c.loop-next.invariant.0 c.loop-next.invariant.2 c.loop-next.invariant.3 in
    (all.0, span.within, all.1, all.2)

pub returns-then-left-eq0 : goal.returns-then-left-eq0
returns-then-left-eq0 c =
    let images = c.args.ready.now.images in
    let numbers = c.args.ready.now.numbers in
    let rows = c.rows-rows.result.now in
    let made = subst (AreRowsOf images numbers) (sym c.rows-rows.ensures.value) c.rows-rows.ensures.are in
    let next = c.loop-next.next in
    let start : c.loop-next.invariant.0 ≡ (row_at rows next).start = end-once rows next c.loop-next.invariant.0 (row_at rows next).start c.loop-next.invariant.2 (made.are_rows.parted next c.loop-next-test.true) in
    kept-early images c.args.planes.now c.args.corners.now numbers c.present-present.result c.present-present.ensures rows made c.loop-next.kept c.loop-next.invariant.0 (omega (arith, start, (made.are_rows.each next c.loop-next-test.true).within)) c.loop-next.auto.kept-fits.fits c.if-left-eq0.true c.loop-next.invariant.3

pub returns : goal.returns
returns c =
    let images = c.args.ready.now.images in
    let numbers = c.args.ready.now.numbers in
    let rows = c.rows-rows.result.now in
    let made = subst (AreRowsOf images numbers) (sym c.rows-rows.ensures.value) c.rows-rows.ensures.are in
    let all : c.loop-next.next ≡ length rows = omega (arith, c.loop-next-test.false, c.loop-next.invariant.1) in
    let whole = end-once rows (length rows) c.loop-next.invariant.0 (length numbers) (subst (λ (r : ℕ). EndAt rows r c.loop-next.invariant.0) all c.loop-next.invariant.2) made.are_rows.whole in
    kept-all images c.args.planes.now c.args.corners.now numbers c.present-present.result c.present-present.ensures rows made c.loop-next.kept
    (subst (λ (n : ℕ). AreKeptTo images c.args.planes.now c.args.corners.now numbers n c.loop-next.kept) whole c.loop-next.invariant.3)
