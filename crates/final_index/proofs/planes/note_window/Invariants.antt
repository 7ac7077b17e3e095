use Rattle.std.proofs.Common.{◌≡◌, ◌-◌, ◌/◌, ◌^◌, ◌≤◌}
use Rattle.final_index.specs.PlaneWords.{HaveGained, IsBehind}
use Rattle.final_index.proofs.planes.note_window.Given as goal

abbrev pub invariant-loop-rest : goal.invariant-loop-rest
invariant-loop-rest l = record {
  most : l.from ≤ 64;
  left : l.rest ≡ l.bits / 2 ^ l.from;
  gained : HaveGained (IsBehind l.first l.bits l.from) l.game l.fn.words l.words;
}

abbrev pub decreases-loop-rest : goal.decreases-loop-rest
decreases-loop-rest l = 64 - l.from
