use Rattle.std.proofs.Common.{ℕ, ◌-◌, ◌<◌, ◌≤◌, length}
use Rattle.std.specs.Prelude.{slice_index_or}
use Rattle.run_audit.specs.Courses.{AreAscending}
use Rattle.run_audit.specs.declared.course.ShownImport.{ShownImport}
use Rattle.run_audit.proofs.course.place_of.Given as goal

-- the imports before the place have lower lines, and those from it on no lower ones
abbrev pub invariant-loop-low : goal.invariant-loop-low
invariant-loop-low l = record {
  between : l.low ≤ l.high;
  most : l.high ≤ length l.shown;
  before : AreAscending l.shown → (k : ℕ) (d : ShownImport) → k < l.low → (slice_index_or l.shown k d).line < l.line;
  behind : AreAscending l.shown → (k : ℕ) (d : ShownImport) → l.high ≤ k → k < length l.shown → l.line ≤ (slice_index_or l.shown k d).line;
}

abbrev pub decreases-loop-low : goal.decreases-loop-low
decreases-loop-low l = l.high - l.low
