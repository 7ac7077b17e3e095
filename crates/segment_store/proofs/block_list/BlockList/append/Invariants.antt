use Rattle.std.proofs.Common.{◌≡◌, ◌++◌, take}
use Rattle.segment_store.specs.Blocks.{games_in}
use Rattle.segment_store.proofs.block_list.BlockList.append.Given as goal

abbrev pub invariant-loop-n : goal.invariant-loop-n
invariant-loop-n l = l.self ≡ l.fn.self ++ games_in (take l.n l.blocks)
