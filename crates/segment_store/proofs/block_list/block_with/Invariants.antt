use Rattle.std.proofs.Common.{◌-◌, ◌<◌, ◌≤◌, length, take}
use Rattle.segment_store.specs.Blocks.{games_in}
use Rattle.segment_store.proofs.block_list.block_with.Given as goal

abbrev pub invariant-loop-high : goal.invariant-loop-high
invariant-loop-high l = record {
  between : l.low < l.high;
  there : l.high ≤ length l.blocks;
  below : length (games_in (take l.low l.blocks)) ≤ l.g;
  above : l.g < length (games_in (take l.high l.blocks));
}

abbrev pub decreases-loop-high : goal.decreases-loop-high
decreases-loop-high l = l.high - l.low
