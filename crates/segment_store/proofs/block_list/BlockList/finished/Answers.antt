use Rattle.std.proofs.Common.{ap, sym, subst, ◌∙◌}
use Rattle.segment_store.specs.Blocks.{AreNumbered, games_in}
use Rattle.segment_store.proofs.GamesInBlocks.{found_by_number}
use Rattle.segment_store.proofs.block_list.BlockList.finished.Goals as goal

pub returns : goal.returns
returns c =
    let value = c.as_slice-blocks.ensures.value in
    found_by_number c.as_slice-blocks.result.now c.block_with.result c.args.g c.index-blocks-block_with.result c.deref-block.result.now c.args.self.now c.get.result.now
    (subst AreNumbered (sym value) c.self.invariant.numbered) c.block_with.ensures.there c.block_with.ensures.low c.index-blocks-block_with.is c.deref-block.ensures (ap games_in value ∙ c.self.view_is) c.get.ensures.value
