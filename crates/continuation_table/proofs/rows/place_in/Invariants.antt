use Rattle.std.proofs.Common.{ℕ, ◌-◌, ◌<◌, ◌≤◌, length, slice_index_or}
use Rattle.continuation_table.specs.declared.table.Row.{Row}
use Rattle.continuation_table.specs.Table.{IsRowBefore}
use Rattle.continuation_table.proofs.rows.place_in.Given as goal

abbrev pub invariant-loop-from : goal.invariant-loop-from
invariant-loop-from l = record {
  ordered : l.from ≤ l.to;
  within : l.to ≤ length l.rows;
  before : (k : ℕ) (d : Row) → k < l.from → IsRowBefore (slice_index_or l.rows k d) l.new;
  rest : (k : ℕ) (d : Row) → l.to ≤ k → k < length l.rows → ¬ IsRowBefore (slice_index_or l.rows k d) l.new;
}

abbrev pub decreases-loop-from : goal.decreases-loop-from
decreases-loop-from l = l.to - l.from
