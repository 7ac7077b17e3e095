use Rattle.corner_index.proofs.CornerLists.{IsIndexOf-none}
use Rattle.corner_index.proofs.corner_index.CornerIndex.empty.Goals as goal

pub returns : goal.returns
returns c = IsIndexOf-none _ _ _ _ c.empty.ensures c.empty-2.ensures c.empty-3.ensures c.empty-4.ensures
