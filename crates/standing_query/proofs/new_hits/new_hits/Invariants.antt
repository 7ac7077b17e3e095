use Rattle.std.proofs.Common.{◌≡◌, ◌+◌, ◌≤◌, drop, map, take}
use Rattle.std.specs.Arc.{arc_value}
use Rattle.version_publisher.specs.Contents.{items_in}
use Rattle.standing_query.specs.Finding.{AreSame}
use Rattle.standing_query.specs.NewGames.{AreFoundTo}
use Rattle.segment_store.specs.Nodes.{nodes_of}
use Rattle.standing_query.proofs.new_hits.new_hits.Given as goal

abbrev pub invariant-loop-part : goal.invariant-loop-part
invariant-loop-part g l = record {
  covered : l.found.covered ≡ l.covered;
  found : AreFoundTo (g.N.Finder.finds l.fn.finder) l.covered (items_in (map arc_value (take l.part-index l.part-items))) l.found.games l.found.hits.items;
  same : AreSame (g.N.Finder.finds l.fn.finder) (g.N.Finder.finds l.finder);
  ticks : l.steps ≤ l.fn.steps + nodes_of (drop l.covered (items_in (map arc_value (take l.part-index l.part-items))));
  grows : l.fn.steps ≤ l.steps;
}
