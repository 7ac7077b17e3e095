use Rattle.std.proofs.Common.{◌≤◌, ◌-◌}
use Rattle.sgf_reader.specs.Stays.{HasReadTo}
use Rattle.sgf_reader.proofs.reader.read_bytes.Given as goal

abbrev pub invariant-loop-at : goal.invariant-loop-at
invariant-loop-at l = record { within : l.at ≤ l.end; read : HasReadTo l.text l.at l.reading l.place }

abbrev pub decreases-loop-at : goal.decreases-loop-at
decreases-loop-at l = l.end - l.at
