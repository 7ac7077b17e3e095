use Rattle.std.proofs.Common.{◌≡◌, ℕ, ◌<◌, slice_index_or}
use Rattle.opening_tree.specs.declared.answer.NextMove.{NextMove}
use Rattle.opening_tree.specs.Groups.{row_order}
use Rattle.opening_tree.proofs.opening_so_far.rows_before.Given as goal

abbrev pub invariant-loop-row : goal.invariant-loop-row
invariant-loop-row l = record {
  at_index : l.at ≡ l.row-index;
  before : (k : ℕ) (d : NextMove) → k < l.at → row_order (slice_index_or l.rows k d) < l.order;
}
