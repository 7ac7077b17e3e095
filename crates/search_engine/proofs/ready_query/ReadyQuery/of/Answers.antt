use Rattle.std.proofs.Common.{[], ◌∙◌, arith, subst, sym}
use Rattle.std.proofs.lemmas.List.{take_all}
use Rattle.pattern_images.specs.declared.query.Query.{Query}
use Rattle.search_engine.specs.Items.{games_of_items}
use Rattle.search_engine.specs.Searching.{AreCovered, AreShapesAdded}
use Rattle.search_engine.proofs.ShapesSought.{AreCovered-added, AreShapesAdded-block}
use Rattle.search_engine.proofs.ready_query.ReadyQuery.of.Goals as goal

pub loop-item-preserved : goal.loop-item-preserved
loop-item-preserved c = record {
  query = c.add_shapes.ensures.query ∙ c.loop-item.invariant.query;
  added = AreShapesAdded-block c.args.query.now c.args.items.now c.loop-item.item-index c.item-item.result c.shapes.result.now [] c.loop-item.made.shapes c.add_shapes.new.self.shapes c.loop-item-test.true c.item-item.is c.shapes.ensures c.loop-item.invariant.added
      (subst (λ (q : Query). AreShapesAdded q c.shapes.result.now c.loop-item.made.shapes c.add_shapes.new.self.shapes) c.loop-item.invariant.query c.in_ok-add_shapes.ensures.added);
}

pub returns-clause-covered : goal.returns-clause-covered
returns-clause-covered c =
    subst (λ (q : Query). AreCovered q c.loop-item.made.shapes (games_of_items c.args.items.now)) (sym c.loop-item.invariant.query)
    (subst (λ items. AreCovered c.args.query.now c.loop-item.made.shapes (games_of_items items)) (take_all c.loop-item.item-index c.args.items.now (omega (arith, c.loop-item-test.false)))
    (AreCovered-added c.args.query.now _ [] c.loop-item.made.shapes c.loop-item.invariant.added))
