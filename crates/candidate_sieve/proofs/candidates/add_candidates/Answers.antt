use Rattle.std.proofs.Common.{◌≡◌, ℕ, ◌+◌, ◌-◌, ◌≤◌, List, Option, bit_and, length, slice_index, refl, sym, ap, ◌∙◌, subst, subst₂, arith}
use Rattle.std.specs.Borrow.{Bor}
use Rattle.std.specs.Prelude.{All}
use Rattle.kb_geometry.specs.Board.{point_count}
use Rattle.pattern_images.specs.ImageList.{grid_at}
use Rattle.final_index.specs.Order.{OrderGames}
use Rattle.final_index.specs.Planes.{PlaneGames}
use Rattle.final_index.proofs.KeptBits.{and-bit}
use Rattle.ready_images.specs.declared.row.Row.{Row}
use Rattle.ready_images.specs.Pairs.{IsPairIn}
use Rattle.ready_images.specs.Rows.{AreRowsOf, EndAt, row_at}
use Rattle.ready_images.specs.Wants.{AreWantsOf}
use Rattle.ready_images.proofs.PlacementLists.{end-none, end-once}
use Rattle.candidate_sieve.specs.declared.order.SpanOrder.{SpanOrder}
use Rattle.candidate_sieve.specs.BlockGames.{AreRowsAdded, IsSieved}
use Rattle.candidate_sieve.specs.Ordered.{ArePairsBelow}
use Rattle.candidate_sieve.proofs.CandidateLists.{AreAddedTo, added-end, added-start}
use Rattle.candidate_sieve.proofs.OrderTold.{pairs-below}
use Rattle.candidate_sieve.proofs.SpansSieved.{pairs-reach, rows-added}
use Rattle.candidate_sieve.proofs.candidates.add_candidates.Goals as goal

pub loop-next-init : goal.loop-next-init
loop-next-init c = (0, omega arith, end-none c.rows-rows.result.now, added-start c.args.block.now.planes.now c.args.block.now.order c.args.ready.now.images (bit_and c.args.games c.present.result) c.args.ready.now.numbers c.args.found.now.items)

pub sieve_span-requires-clause-on_board : goal.sieve_span-requires-clause-on_board
sieve_span-requires-clause-on_board c =
    let rows = c.rows-rows.result.now in
    let value = sym c.rows-rows.ensures.value in
    let begin = c.span_from-span.ensures.begin in
    let span = c.span_from-span.ensures.are in
    let end = c.span_from-span.result.end in
    let q = end - 1 in
    let last = row_at rows q in
    let shape = c.args.ready.now.images.shape in
    let sieve = c.span_sieve-sieve.result in
    let base : sieve.base ≡ (row_at rows c.loop-next.next).base = c.span_sieve-sieve.ensures.base ∙ ap (λ (n : ℕ). (row_at c.args.ready.now.rows n).base) begin ∙ ap (λ (rs : List Row). (row_at rs c.loop-next.next).base) value in
    let to_end : sieve.base + sieve.count ≡ last.base + last.count = subst (λ (rs : List Row). sieve.base + sieve.count ≡ (row_at rs q).base + (row_at rs q).count) value (c.span_sieve-sieve.ensures.to_end q (omega (arith, span.some))) in
    let behind : sieve.base ≤ last.base = omega (arith, base, span.from q (omega (arith, span.some)) (omega (arith, span.some))) in
    let count : sieve.count ≡ last.base - sieve.base + last.count = omega (arith, to_end, behind) in
    pairs-below shape c.args.block.now.order c.requires.order sieve.base sieve.count sieve.count c.pairs_of.result.now refl
    (subst (λ (n : ℕ). ArePairsBelow (point_count shape) sieve.base c.pairs_of.result.now n) (sym count)
    (pairs-reach (point_count shape) last.base sieve.base last.count (last.base - sieve.base) c.pairs_of.result.now behind refl c.pairs_of.ensures.on_board))

pub loop-next-preserved : goal.loop-next-preserved
loop-next-preserved c =
    let images = c.args.ready.now.images in
    let numbers = c.args.ready.now.numbers in
    let planes = c.args.block.now.planes.now in
    let order : Option (Bor OrderGames) = c.args.block.now.order in
    let there = bit_and c.args.games c.present.result in
    let rows = c.rows-rows.result.now in
    let value = sym c.rows-rows.ensures.value in
    let begin = c.span_from-span.ensures.begin in
    let made = subst (AreRowsOf images numbers) value c.rows-rows.ensures.are in
    let span = c.span_from-span.ensures.are in
    let next = c.loop-next.next in
    let end = c.span_from-span.result.end in
    let q = end - 1 in
    let first = row_at rows next in
    let class : (row_at rows q).class ≡ first.class = span.classes q (omega (arith, span.some)) (omega (arith, span.some)) in
    let sieve = c.span_sieve-sieve.result in
    let wants = sieve.wants.now in
    let made-order : SpanOrder = record { order = order; base = sieve.base; pairs = c.pairs_of.result } in
    let words = c.deref.result.now in
    let long : length words ≡ sieve.count = ap length c.deref.ensures.value ∙ c.in_ok-sieve_span.ensures.count in
    let base : sieve.base ≡ first.base = c.span_sieve-sieve.ensures.base ∙ ap (λ (n : ℕ). (row_at c.args.ready.now.rows n).base) begin ∙ ap (λ (rs : List Row). (row_at rs next).base) value in
    let are = subst₂ (λ (rs : List Row) (f : ℕ). AreWantsOf images.shape (grid_at images.grids (row_at rs f).class) wants) value begin c.span_sieve-sieve.ensures.wants in
    let to_end = subst (λ (rs : List Row). (q : ℕ) → end ≡ q + 1 → sieve.base + sieve.count ≡ (row_at rs q).base + (row_at rs q).count) value c.span_sieve-sieve.ensures.to_end in
    let pairs = subst (λ (n : ℕ). All (IsPairIn images.shape (grid_at images.grids n)) c.pairs_of.result.now) class c.pairs_of.ensures.are in
    let added = subst₂ (λ (rs : List Row) (f : ℕ). AreRowsAdded rs numbers words f c.loop-next.found.items end c.add_rows.new.found.items) value begin c.in_ok-add_rows.ensures.ok in
    let all = rows-added images c.rows-rows.ensures.images planes c.requires.shape numbers rows made next end span first.class refl wants are
    made-order pairs there (λ g lt e. (c.present.ensures g lt).0 ((and-bit c.args.games c.present.result g).0 e).1)
    words (λ p is. omega (arith, to_end p is, base, long))
    (λ k lt.
    let room = c.in_ok-sieve_span.ensures.games k (omega (arith, lt, long)) in
    subst₂ (λ (b : ℕ) (ws : List ℕ). IsSieved planes.games wants there made-order (b + k) (slice_index ws k)) base (sym c.deref.ensures.value)
    (subst (λ (p : PlaneGames). IsSieved p.games wants there made-order (sieve.base + k) (slice_index c.sieve_span.new.room.items k)) c.span_sieve-sieve.ensures.planes room))
    c.args.found.now.items c.loop-next.found.items (c.loop-next.invariant.0, c.loop-next.invariant.2, c.loop-next.invariant.3) end c.add_rows.new.found.items (omega arith) added in
    (all.0, span.within, all.1, all.2)

pub returns-clause-ok : goal.returns-clause-ok
returns-clause-ok c =
    let images = c.args.ready.now.images in
    let numbers = c.args.ready.now.numbers in
    let rows = c.rows-rows.result.now in
    let there = bit_and c.args.games c.present.result in
    let made = subst (AreRowsOf images numbers) (sym c.rows-rows.ensures.value) c.rows-rows.ensures.are in
    let all : c.loop-next.next ≡ length rows = omega (arith, c.loop-next-test.false, c.loop-next.invariant.1) in
    let whole = end-once rows (length rows) c.loop-next.invariant.0 (length numbers) (subst (λ (r : ℕ). EndAt rows r c.loop-next.invariant.0) all c.loop-next.invariant.2) made.are_rows.whole in
    added-end c.args.block.now.planes.now c.args.block.now.order images there numbers c.args.found.now.items c.args.games c.present.result c.loop-next.found.items refl c.present.ensures made.complete
    (subst (λ (n : ℕ). AreAddedTo c.args.block.now.planes.now c.args.block.now.order images there numbers n c.args.found.now.items c.loop-next.found.items) whole c.loop-next.invariant.3)
