use Rattle.std.proofs.Common.{◌-◌, ◌≤◌, List, ap, arith, subst, sym}
use Rattle.kb_geometry.specs.Board.{point_count}
use Rattle.kb_geometry.proofs.Shapes.{point_count-le-most}
use Rattle.ready_images.specs.declared.row.Row.{Row}
use Rattle.ready_images.specs.Rows.{AreRowsOf, row_at}
use Rattle.candidate_sieve.specs.BlockGames.{IsSpanOf}
use Rattle.candidate_sieve.proofs.SpansSieved.{row-end}
use Rattle.candidate_sieve.proofs.spans.span_sieve.Goals as goal

pub overflow_add-result : goal.overflow_add-result
overflow_add-result c =
    let images = c.args.ready.now.images in
    let numbers = c.args.ready.now.numbers in
    let rows = c.rows-rows.result.now in
    let value = sym c.rows-rows.ensures.value in
    let made = subst (AreRowsOf images numbers) value c.rows-rows.ensures.are in
    let span = subst (λ (rs : List Row). IsSpanOf rs c.args.span.first c.args.span.end) value c.requires.span in
    let q = c.args.span.end - 1 in
    let short = row-end images c.rows-rows.ensures.images numbers made.in_range (row_at rows q) (made.are_rows.each q (omega (arith, span.some, span.within))) in
    omega (arith, c.from.ensures, short, point_count-le-most images.shape)

pub returns-clause-sieve : goal.returns-clause-sieve
returns-clause-sieve c =
    let images = c.args.ready.now.images in
    let numbers = c.args.ready.now.numbers in
    let rows = c.rows-rows.result.now in
    let value = sym c.rows-rows.ensures.value in
    let made = subst (AreRowsOf images numbers) value c.rows-rows.ensures.are in
    let span = subst (λ (rs : List Row). IsSpanOf rs c.args.span.first c.args.span.end) value c.requires.span in
    let q = c.args.span.end - 1 in
    let short = row-end images c.rows-rows.ensures.images numbers made.in_range (row_at rows q) (made.are_rows.each q (omega (arith, span.some, span.within))) in
    let behind : (row_at rows c.args.span.first).base ≤ (row_at rows q).base = span.from q (omega (arith, span.some)) (omega (arith, span.some)) in
    record {
      ever_empty = c.requires.ever_empty;
      in_order = c.wants_of.ensures.are.in_order;
      on_board = λ k d lt. omega (arith, c.wants_of.ensures.on_board k d lt, c.from.ensures, behind, ap point_count c.requires.shape);
      small = omega (arith, short, c.from.ensures, behind, point_count-le-most images.shape);
    }
