use Rattle.std.proofs.Common.{ℕ, ◌<◌, ◌≤◌}
use Rattle.pattern_images.specs.ImageList.{grid_at}
use Rattle.line_matcher.proofs.matcher.most_size.Given as goal

-- the greatest size so far
abbrev pub invariant-loop-class : goal.invariant-loop-class
invariant-loop-class l = record {
  some_column : 1 ≤ l.most.cols;
  some_row : 1 ≤ l.most.rows;
  columns : (k : ℕ) → k < l.class → (grid_at l.images.grids k).cols ≤ l.most.cols;
  rows : (k : ℕ) → k < l.class → (grid_at l.images.grids k).rows ≤ l.most.rows;
}
