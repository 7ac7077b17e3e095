use Rattle.capture_index.specs.Finding.{IsCutBy}
use Rattle.capture_index.specs.Stretches.{AreApart}
use Rattle.capture_index.proofs.packed_runs.PackedRuns.cut_all.Given as goal

abbrev pub invariant-loop-want : goal.invariant-loop-want
invariant-loop-want l = record {
  cut : IsCutBy l.self l.base l.wants l.want-index l.fn.found.items l.found.items;
  apart : AreApart 0 l.self.nodes l.found.items;
}
