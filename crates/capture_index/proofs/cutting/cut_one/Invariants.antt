use Rattle.std.proofs.Common.{◌<◌, ◌≤◌, ℕ}
use Rattle.capture_index.specs.Stretches.{AreApart}
use Rattle.capture_index.proofs.Apart.{IsApartTo}
use Rattle.capture_index.proofs.CutRuns.{IsCutTo}
use Rattle.capture_index.proofs.cutting.cut_one.Given as goal

abbrev pub invariant-loop-at : goal.invariant-loop-at
invariant-loop-at l = record {
  from : l.stretch.from < l.next;
  cut : IsCutTo l.runs l.want l.stretch l.fn.found.items l.at l.next l.found.items;
  apart : (most : ℕ) → l.stretch.to ≤ most → AreApart l.stretch.to most l.fn.found.items → IsApartTo l.stretch l.next most l.found.items;
}
