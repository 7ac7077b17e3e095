-- The row at hand stands at the start that the loop keeps.
use Rattle.std.proofs.Common.{◌+◌, ◌*◌, ◌∙◌, ℕ, slice_index_or, below_more, sym, subst, arith}
use Rattle.std.proofs.lemmas.Bool.{false≢true}
use Rattle.line_matcher.specs.Masks.{TouchesAt, care_of, no_mask}
use Rattle.line_matcher.proofs.mask.rows_touch.Goals as goal

pub loop-row-preserved : goal.loop-row-preserved
loop-row-preserved c =
    let i = c.loop-row.row-index in
    record {
      start = omega arith;
      none = λ dy k lt. below_more (λ (j : ℕ). TouchesAt (care_of c.args.colour (slice_index_or c.args.rows.now j no_mask)) c.args.points.now (c.args.first + j * c.args.cols) k → ⊥) i (λ j below. c.loop-row.invariant.none j k below)
          (λ at. false≢true (sym c.if-touches.false ∙ c.touches.ensures.1 (k, subst (λ (start : ℕ). TouchesAt (care_of c.args.colour (slice_index_or c.args.rows.now i no_mask)) c.args.points.now start k) (sym c.loop-row.invariant.start) at))) dy lt;
    }
