use Rattle.std.proofs.Common.{inl, inr, refl, subst, sym, ◌∙◌}
use Rattle.std.proofs.lemmas.Result.{IfOk-weaker}
use Rattle.std.specs.Prelude.{Contains}
use Rattle.kb_geometry.specs.declared.shape.Shape.{Shape}
use Rattle.pattern_images.specs.Placements.{ArePlacements}
use Rattle.search_engine.proofs.kept_games.kept_on_shape.Goals as goal

pub returns-in_default : goal.returns-in_default
returns-in_default c = inl ((λ there. c.in_default.ensures.none (subst (Contains c.args.ready.now.shapes) (sym c.shape.ensures) there)), refl)

pub kept_games-requires-clause-shape : goal.kept_games-requires-clause-shape
kept_games-requires-clause-shape c = c.in-Some.ensures.shape ∙ c.shape.ensures

pub returns : goal.returns
returns c =
    let query = c.args.ready.now.query in
    let images = c.in-Some.on_shape.now.images in
    let are = subst (λ (s : Shape). ArePlacements query s images.placements) c.shape.ensures c.in-Some.ensures.placements in
    IfOk-weaker c.kept_games.result _ _ (λ word kept. inr (images.placements, are, kept)) c.kept_games.ensures
