use Rattle.std.proofs.Common.{◌≡◌, ◌≢◌, ◌+◌, ◌<◌, ℕ, slice_index_or}
use Rattle.pattern_images.specs.declared.cell.PatternCell.TheVariants as pattern
use Rattle.candidate_sieve.specs.Candidates.{HasAllowed}
use Rattle.candidate_sieve.proofs.cells.meets_row.Given as goal

-- the cells so far are met
abbrev pub invariant-loop-cell : goal.invariant-loop-cell
invariant-loop-cell l = record {
  at : l.point ≡ l.start + l.cell-index;
  met : (k : ℕ) → k < l.cell-index → slice_index_or l.cells k pattern.Any ≢ pattern.Any → HasAllowed l.ever (l.start + k) (slice_index_or l.cells k pattern.Any);
}
