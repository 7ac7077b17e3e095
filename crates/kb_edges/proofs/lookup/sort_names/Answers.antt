use Rattle.kb_edges.proofs.Listings.{sorted-adds_none, sorted-ascending, sorted-distinct, sorted-keeps}
use Rattle.kb_edges.proofs.lookup.sort_names.Goals as goal

pub returns : goal.returns
returns c =
    let moved = c.sort_unstable.ensures.permutation in
    let filtered = c.dedup.ensures.filtered in
    record {
      ascending = sorted-ascending _ _ _ moved filtered c.sort_unstable.ensures.sorted;
      distinct = sorted-distinct _ _ _ moved filtered c.sort_unstable.ensures.sorted;
      kept = sorted-keeps _ _ _ moved filtered;
      none_added = sorted-adds_none _ _ _ moved filtered;
    }
