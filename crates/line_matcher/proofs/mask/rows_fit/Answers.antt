-- The row at hand stands at the start that the loop keeps.
use Rattle.std.proofs.Common.{ℕ, slice_index_or, below_more, refl, sym, subst, arith}
use Rattle.std.proofs.lemmas.Bool.{false≢true}
use Rattle.line_matcher.specs.Masks.{FitsRow, no_mask}
use Rattle.line_matcher.proofs.mask.rows_fit.Goals as goal

pub returns-then-not-fits : goal.returns-then-not-fits
returns-then-not-fits c =
    let i = c.loop-row.row-index in (
      λ t. absurd (false≢true t),
      λ fit. c.if-not-fits.ensures.1 (subst (λ (start : ℕ). FitsRow (slice_index_or c.args.rows.now i no_mask) c.args.black.now c.args.white.now start) (sym c.loop-row.invariant.start) (fit i c.loop-row-test.true)),
    )

pub loop-row-preserved : goal.loop-row-preserved
loop-row-preserved c =
    let i = c.loop-row.row-index in
    record {
      start = omega arith;
      fit = below_more _ _ c.loop-row.invariant.fit (subst (λ (start : ℕ). FitsRow (slice_index_or c.args.rows.now i no_mask) c.args.black.now c.args.white.now start) c.loop-row.invariant.start (c.fits.ensures.0 c.if-not-fits.false));
    }

pub returns : goal.returns
returns c = (λ t dy lt. c.loop-row.invariant.fit dy (omega arith), λ fit. refl)
