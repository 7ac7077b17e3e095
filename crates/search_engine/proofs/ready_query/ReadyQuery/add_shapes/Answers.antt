use Rattle.std.proofs.Common.{◌∷◌, [], ◌∙◌, subst}
use Rattle.pattern_images.specs.declared.query.Query.{Query}
use Rattle.search_engine.specs.Searching.{AreShapesAdded}
use Rattle.search_engine.proofs.ShapesSought.{AreShapesAdded-more}
use Rattle.search_engine.proofs.ready_query.ReadyQuery.add_shapes.Goals as goal

pub loop-shape-preserved : goal.loop-shape-preserved
loop-shape-preserved c = record {
  query = c.add_shape.ensures.query ∙ c.loop-shape.invariant.query;
  added = AreShapesAdded-more c.args.self.now.query c.args.shapes.now c.args.self.now.shapes c.loop-shape.self.shapes c.add_shape.new.self.shapes c.loop-shape.shape-index c.shape-item.result c.loop-shape-test.true c.shape-item.is c.loop-shape.invariant.added
      (subst (λ (q : Query). AreShapesAdded q (c.shape-item.result ∷ []) c.loop-shape.self.shapes c.add_shape.new.self.shapes) c.loop-shape.invariant.query c.in_ok-add_shape.ensures.added);
}
