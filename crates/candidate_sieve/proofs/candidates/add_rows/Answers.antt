use Rattle.std.proofs.Common.{◌≡◌, ℕ, ◌+◌, ◌-◌, List, arith, length, subst, subst₂, sym}
use Rattle.std.specs.Prelude.{slice_range}
use Rattle.kb_geometry.proofs.Prefixes.{refused_further}
use Rattle.ready_images.specs.declared.row.Row.{Row}
use Rattle.ready_images.specs.Rows.{row_at}
use Rattle.candidate_sieve.specs.BlockGames.{AreAddedFor, AreRowsAdded, AreWordsOfSpan, IsSpanOf, numbers_in}
use Rattle.candidate_sieve.specs.BlockGames.AreRowsAdded.{none_yet, row_more}
use Rattle.candidate_sieve.proofs.SpansSieved.{rows-behind, words-within}
use Rattle.candidate_sieve.proofs.candidates.add_rows.Goals as goal

pub loop-r-init : goal.loop-r-init
loop-r-init c = none_yet

pub slice_bounds-add_row-end : goal.slice_bounds-add_row-end
slice_bounds-add_row-end c =
    let first = c.args.span.first in
    let end = c.args.span.end in
    let same = sym c.rows-rows.ensures.value in
    let span = subst (λ (rs : List Row). IsSpanOf rs first end) same c.requires.span in
    let reach = subst (λ (rs : List Row). AreWordsOfSpan rs first end (length c.args.words.now)) same c.requires.words in
    omega (arith, c.from-from.ensures, words-within c.rows-rows.result.now first end span c.args.words.now reach c.loop-r.r c.loop-r.auto.r c.loop-r-test.true)

pub loop-r-preserved : goal.loop-r-preserved
loop-r-preserved c =
    let rows = c.rows-rows.result.now in
    let numbers = c.args.ready.now.numbers in
    let words = c.args.words.now in
    let r = c.loop-r.r in
    let row = row_at rows r in
    let base = (row_at rows c.args.span.first).base in
    let from = c.from-from.result in
    let at : from ≡ row.base - base = omega (arith, c.from-from.ensures) in
    let added = subst₂ (λ (ns : List ℕ) (n : ℕ). AreAddedFor row ns (slice_range words from (from + row.count)) c.loop-r.found.items n c.add_row.new.found.items) c.numbers_of.ensures.value c.numbers_of.ensures.count c.in_ok-add_row.ensures.ok in
    row_more r c.loop-r.found.items c.add_row.new.found.items c.loop-r.auto.r c.loop-r.invariant
    (subst (λ (n : ℕ). AreAddedFor row (numbers_in numbers row) (slice_range words n (n + row.count)) c.loop-r.found.items row.count c.add_row.new.found.items) at added)

pub returns-in_err-add_row-clause-refused : goal.returns-in_err-add_row-clause-refused
returns-in_err-add_row-clause-refused c =
    refused_further c.from_residual.result c.args.found.now.items c.loop-r.found.items c.add_row.new.found.items
    (rows-behind c.rows-rows.result.now c.args.ready.now.numbers c.args.words.now c.args.span.first c.args.found.now.items c.loop-r.r c.loop-r.found.items c.loop-r.invariant)
    c.in_err-add_row.ensures.refused

pub returns-clause-ok : goal.returns-clause-ok
returns-clause-ok c =
    let all : c.loop-r.r ≡ c.args.span.end = omega (arith, c.loop-r-test.false, c.loop-r.auto.r-end, c.requires.span.some) in
    subst₂ (λ (rs : List Row) (r : ℕ). AreRowsAdded rs c.args.ready.now.numbers c.args.words.now c.args.span.first c.args.found.now.items r c.loop-r.found.items) c.rows-rows.ensures.value all c.loop-r.invariant
