use Rattle.std.proofs.Common.{◌≡◌, ◌-◌, ◌≤◌, length, map, take}
use Rattle.std.specs.Arc.{arc_value}
use Rattle.segment_store.proofs.block_list.in_blocks.Given as goal

abbrev pub invariant-loop-from : goal.invariant-loop-from
invariant-loop-from l = record {
  within : l.from ≤ length l.games;
  taken : l.list ≡ map arc_value (take l.from l.games);
}

abbrev pub decreases-loop-from : goal.decreases-loop-from
decreases-loop-from l = length l.games - l.from
