use Rattle.std.proofs.Common.{sym, ap, ◌∙◌, subst}
use Rattle.std.specs.Prelude.{All, Contains}
use Rattle.std.proofs.lemmas.Bool.{false≢true}
use Rattle.pattern_images.specs.Query.{IsForBoard}
use Rattle.pattern_images.specs.ImageList.{ImageList}
use Rattle.pattern_images.specs.Placements.{ArePlacements}
use Rattle.search_engine.specs.ImagesMade.{AreReadyOn, QueryOnShapes}
use Rattle.search_engine.proofs.ReadyOnShapes.{ready_more, shapes_more, told_of_some}
use Rattle.search_engine.proofs.ShapesSought.{AreShapesAdded-nothing}
use Rattle.search_engine.proofs.ready_query.ReadyQuery.add_shape.Goals as goal

pub returns-then-not-is_for-clause-added : goal.returns-then-not-is_for-clause-added
returns-then-not-is_for-clause-added c =
    let view = c.args.self.now in
    AreShapesAdded-nothing view.query c.args.shape view.shapes
    (λ looks. absurd (false≢true (sym c.if-not-is_for.true ∙ c.is_for.ensures.1 (subst (λ (v : QueryOnShapes). IsForBoard v.query c.args.shape) (sym c.self.view_is) looks))))

pub returns-then-is_some-clause-added : goal.returns-then-is_some-clause-added
returns-then-is_some-clause-added c =
    let view = c.args.self.now in
    AreShapesAdded-nothing view.query c.args.shape view.shapes
    (λ looks. told_of_some c.find.result (Contains view.shapes c.args.shape) c.find.ensures.among_shapes (sym c.is_some.ensures ∙ c.if-is_some.true))

pub invariant_of-self-2 : goal.invariant_of-self-2
invariant_of-self-2 c =
    ready_more c.self.inside.query.now c.self.inside.ready.items c.push.new.self.items c.in_ok-new.field-0 c.in_ok-push.ensures.items c.args.shape (ap (λ (i : ImageList). i.shape) c.in_ok-new.ensures ∙ c.in_ok-images.ensures.shape) c.self.invariant (c.is_for.ensures.0 c.if-not-is_for.false)
    (subst (λ (i : ImageList). ArePlacements c.self.inside.query.now c.args.shape i.placements) (sym c.in_ok-new.ensures) c.in_ok-images.ensures.placements)

pub returns-clause-added : goal.returns-clause-added
returns-clause-added c =
    shapes_more c.self.inside.query.now c.self.inside.ready.items c.push.new.self.items c.in_ok-new.field-0 c.in_ok-push.ensures.items c.args.shape (ap (λ (i : ImageList). i.shape) c.in_ok-new.ensures ∙ c.in_ok-images.ensures.shape) c.args.self.now.query c.args.self.now.shapes (ap (λ (v : QueryOnShapes). v.shapes) c.self.view_is)

pub invariant_of-self-in_err-push : goal.invariant_of-self-in_err-push
invariant_of-self-in_err-push c = subst (All (AreReadyOn c.self.inside.query.now)) (sym c.in_err-push.ensures.items) c.self.invariant
