use Rattle.std.proofs.Common.{◌≡◌, ◌↔◌, ◌<◌, ◌≤◌, ◌⊎◌, ℕ, [], length}
use Rattle.std.specs.Prelude.{IsTrue, slice_index_or}
use Rattle.capture_index.specs.declared.stretch.Stretch.{Stretch}
use Rattle.capture_index.specs.Runs.{AreToldBehind, cell_by}
use Rattle.capture_index.specs.Lists.{IsInFirst}
use Rattle.capture_index.specs.Stretches.{AreApart, IsIn, is_wanted}
use Rattle.capture_index.proofs.Apart.{AreApartFrom}
use Rattle.capture_index.proofs.cutting.cut_each.Given as goal

abbrev pub invariant-loop-stretch : goal.invariant-loop-stretch
invariant-loop-stretch l = record {
  within : l.at ≤ length l.runs;
  behind : (k : ℕ) (d : Stretch) → l.stretch-index ≤ k → k < length l.stretches → AreToldBehind l.runs l.at (slice_index_or l.stretches k d).to;
  nodes_of : (n : ℕ) → IsIn l.found.items n ↔ (IsIn l.fn.found.items n ⊎ (IsInFirst l.stretch-index l.stretches n × IsTrue (is_wanted l.want (cell_by l.runs n))));
  apart : (most : ℕ) → l.fn.found.items ≡ [] → AreApart 0 most l.stretches → AreApartFrom l.stretches l.stretch-index most l.found.items;
}
