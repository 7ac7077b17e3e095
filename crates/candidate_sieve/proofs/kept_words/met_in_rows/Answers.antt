use Rattle.std.proofs.Common.{◌≡◌, ◌⊎◌, ◌↔◌, ℕ, ◌+◌, ◌-◌, ◌<◌, List, ap, arith, length, slice_index, subst, subst₂, sym}
use Rattle.std.specs.Int.{bit_at}
use Rattle.std.specs.Prelude.{slice_range}
use Rattle.pattern_images.specs.ImageList.{no_placement}
use Rattle.ready_images.specs.declared.row.Row.{Row}
use Rattle.ready_images.specs.Rows.{AreRowsOf, row_at}
use Rattle.candidate_sieve.specs.BlockGames.{AreWordsOfSpan, IsSpanOf}
use Rattle.candidate_sieve.specs.KeptWords.{IsInWords, IsMetBy}
use Rattle.candidate_sieve.proofs.KeptRows.{part-in_range}
use Rattle.candidate_sieve.proofs.SpansKept.{AreMetIn, met_in-next, met_in-start}
use Rattle.candidate_sieve.proofs.SpansSieved.{words-within}
use Rattle.candidate_sieve.proofs.kept_words.met_in_rows.Goals as goal

pub loop-r-init : goal.loop-r-init
loop-r-init c = met_in-start c.args.ready.now.images.shape c.args.ready.now.images.placements c.rows-rows.result.now c.args.ready.now.numbers c.args.words.now c.args.span.first c.args.corners.now

pub slice_bounds-met_by-end : goal.slice_bounds-met_by-end
slice_bounds-met_by-end c =
    let same = sym c.rows-rows.ensures.value in
    let span = subst (λ (rs : List Row). IsSpanOf rs c.args.span.first c.args.span.end) same c.requires.span in
    let reach = subst (λ (rs : List Row). AreWordsOfSpan rs c.args.span.first c.args.span.end (length c.args.words.now)) same c.requires.words in
    omega (arith, c.from-from.ensures, words-within c.rows-rows.result.now c.args.span.first c.args.span.end span c.args.words.now reach c.loop-r.r c.loop-r.auto.r c.loop-r-test.true)

pub met_by-met-requires-clause-in_range : goal.met_by-met-requires-clause-in_range
met_by-met-requires-clause-in_range c =
    let images = c.args.ready.now.images in
    let numbers = c.args.ready.now.numbers in
    let rows = c.rows-rows.result.now in
    let made = subst (AreRowsOf images numbers) (sym c.rows-rows.ensures.value) c.rows-rows.ensures.are in
    let within : c.loop-r.r < length rows = omega (arith, c.loop-r-test.true, c.requires.span.within, ap length c.rows-rows.ensures.value) in
    part-in_range images numbers made.in_range (row_at rows c.loop-r.r) (made.are_rows.each c.loop-r.r within) c.numbers_of-numbers.result.now c.numbers_of-numbers.ensures.value

pub met_by-met-requires-clause-placed : goal.met_by-met-requires-clause-placed
met_by-met-requires-clause-placed c =
    let images = c.args.ready.now.images in
    let numbers = c.args.ready.now.numbers in
    let rows = c.rows-rows.result.now in
    let made = subst (AreRowsOf images numbers) (sym c.rows-rows.ensures.value) c.rows-rows.ensures.are in
    let within : c.loop-r.r < length rows = omega (arith, c.loop-r-test.true, c.requires.span.within, ap length c.rows-rows.ensures.value) in
    λ k lt. c.rows-rows.ensures.images.placed (slice_index c.numbers_of-numbers.result.now k) no_placement (part-in_range images numbers made.in_range (row_at rows c.loop-r.r) (made.are_rows.each c.loop-r.r within) c.numbers_of-numbers.result.now c.numbers_of-numbers.ensures.value k lt)

pub loop-r-preserved : goal.loop-r-preserved
loop-r-preserved c =
    let images = c.args.ready.now.images in
    let placements = images.placements in
    let numbers = c.args.ready.now.numbers in
    let rows = c.rows-rows.result.now in
    let words = c.args.words.now in
    let first = c.args.span.first in
    let end = c.args.span.end in
    let corners = c.args.corners.now in
    let same = sym c.rows-rows.ensures.value in
    let span = subst (λ (rs : List Row). IsSpanOf rs first end) same c.requires.span in
    let reach = subst (λ (rs : List Row). AreWordsOfSpan rs first end (length words)) same c.requires.words in
    let r = c.loop-r.r in
    let row = row_at rows r in
    let base = (row_at rows first).base in
    let from = c.from-from.result in
    let met = c.loop-r.met in
    let new = c.met_by-met.result in
    let at : from ≡ row.base - base = omega (arith, c.from-from.ensures) in
    met_in-next images.shape placements rows numbers words first corners r met new c.loop-r.auto.r (words-within rows first end span words reach r c.loop-r.auto.r c.loop-r-test.true) c.loop-r.invariant
    (λ g changes lt on_shape has. subst₂ (λ (ns : List ℕ) (n : ℕ). (bit_at new g ≡ 1) ↔ ((bit_at met g ≡ 1) ⊎ IsMetBy placements ns (slice_range words n (n + row.count)) g changes)) c.numbers_of-numbers.ensures.value at (c.met_by-met.ensures.exact g changes lt on_shape has))
    (λ g lt e. subst (λ (n : ℕ). (bit_at met g ≡ 1) ⊎ IsInWords (slice_range words n (n + row.count)) g) at (c.met_by-met.ensures.among g lt e))

pub returns-clause-exact : goal.returns-clause-exact
returns-clause-exact c =
    let images = c.args.ready.now.images in
    let all : c.loop-r.r ≡ c.args.span.end = omega (arith, c.loop-r-test.false, c.loop-r.auto.r-end, c.requires.span.some) in
    (subst₂ (λ (rs : List Row) (r : ℕ). AreMetIn images.shape images.placements rs c.args.ready.now.numbers c.args.words.now c.args.span.first c.args.corners.now r c.loop-r.met) c.rows-rows.ensures.value all c.loop-r.invariant).exact

pub returns-clause-among : goal.returns-clause-among
returns-clause-among c = c.loop-r.invariant.among
