use Rattle.std.proofs.Common.{◌≡◌, [], take}
use Rattle.search_engine.specs.Items.{games_of_items}
use Rattle.search_engine.specs.Searching.{AreShapesAdded}
use Rattle.search_engine.proofs.ShapesSought.{shapes_in}
use Rattle.search_engine.proofs.ready_query.ReadyQuery.of.Given as goal

abbrev pub invariant-loop-item : goal.invariant-loop-item
invariant-loop-item l = record {
  query : l.made.query ≡ l.query;
  added : AreShapesAdded l.query (shapes_in (games_of_items (take l.item-index l.items))) [] l.made.shapes;
}
