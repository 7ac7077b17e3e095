use Rattle.std.proofs.Common.{◌≡◌, ◌+◌, slice_index_or}
use Rattle.pattern_images.specs.declared.cell.PatternCell.TheVariants as cell
use Rattle.candidate_sieve.specs.Noting.{AreNoted, AsksOn}
use Rattle.candidate_sieve.proofs.NotedPoints.{AsksBelow}
use Rattle.candidate_sieve.proofs.asked.AskedPoints.add_row.Given as goal

-- the cells so far
abbrev pub invariant-loop-cell : goal.invariant-loop-cell
invariant-loop-cell l = record {
  at : l.point ≡ l.start + l.cell-index;
  noted : AreNoted l.fn.self (AsksBelow (λ k. AsksOn (slice_index_or l.cells k cell.Any) (l.start + k)) l.cell-index) l.self;
}
