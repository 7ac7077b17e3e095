use Rattle.std.proofs.Common.{rules}
use Rattle.segment_store.proofs.GamesInBlocks.{room_for}
use Rattle.segment_store.proofs.block_list.BlockList.append.Goals as goal

pub push-requires : goal.push-requires
push-requires c = room_for c.args.self.now c.args.blocks.now c.loop-n.n c.index-blocks-n.result c.loop-n.self _ (search rules) c.loop-n.invariant (c.in_ok-block.ensures) c.requires
