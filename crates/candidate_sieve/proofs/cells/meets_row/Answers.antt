use Rattle.std.proofs.Common.{◌≢◌, ℕ, slice_index_or, below_more, sym, subst, arith}
use Rattle.std.proofs.lemmas.Bool.{false≢true}
use Rattle.std.proofs.lemmas.List.{get_or_default}
use Rattle.pattern_images.specs.declared.cell.PatternCell.{PatternCell}
use Rattle.pattern_images.specs.declared.cell.PatternCell.TheVariants as pattern
use Rattle.candidate_sieve.specs.Candidates.{HasAllowed}
use Rattle.candidate_sieve.proofs.cells.meets_row.Goals as goal

pub returns-then-not-meets_cell : goal.returns-then-not-meets_cell
returns-then-not-meets_cell c =
    let i = c.loop-cell.cell-index in (
      λ t. absurd (false≢true t),
      λ all. c.if-not-meets_cell.ensures.1
          (subst (λ (d : PatternCell). d ≢ pattern.Any → HasAllowed c.args.ever.now c.loop-cell.point d) (get_or_default c.args.cells.now i pattern.Any pattern.Empty c.loop-cell-test.true)
          (λ other. subst (λ (p : ℕ). HasAllowed c.args.ever.now p (slice_index_or c.args.cells.now i pattern.Any)) (sym c.loop-cell.invariant.at) (all i c.loop-cell-test.true other))),
    )

pub loop-cell-preserved : goal.loop-cell-preserved
loop-cell-preserved c =
    let i = c.loop-cell.cell-index in
    record {
      at = omega (arith, c.loop-cell.invariant.at);
      met = below_more _ _ c.loop-cell.invariant.met (subst (λ (p : ℕ). slice_index_or c.args.cells.now i pattern.Any ≢ pattern.Any → HasAllowed c.args.ever.now p (slice_index_or c.args.cells.now i pattern.Any)) c.loop-cell.invariant.at
          (subst (λ (d : PatternCell). d ≢ pattern.Any → HasAllowed c.args.ever.now c.loop-cell.point d) (get_or_default c.args.cells.now i pattern.Empty pattern.Any c.loop-cell-test.true) (c.meets_cell.ensures.0 c.if-not-meets_cell.false)));
    }
