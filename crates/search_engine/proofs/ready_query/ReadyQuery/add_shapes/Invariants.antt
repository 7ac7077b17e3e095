use Rattle.std.proofs.Common.{◌≡◌, take}
use Rattle.search_engine.specs.Searching.{AreShapesAdded}
use Rattle.search_engine.proofs.ready_query.ReadyQuery.add_shapes.Given as goal

abbrev pub invariant-loop-shape : goal.invariant-loop-shape
invariant-loop-shape l = record {
  query : l.self.query ≡ l.fn.self.query;
  added : AreShapesAdded l.fn.self.query (take l.shape-index l.shapes) l.fn.self.shapes l.self.shapes;
}
