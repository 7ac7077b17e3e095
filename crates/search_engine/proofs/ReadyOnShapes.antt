-- The images of a query that are ready, on boards of several shapes.
use Rattle.std.proofs.Common.{◌≡◌, ◌≢◌, zero, suc, List, [], ◌∷◌, ◌++◌, Option, None, Some, map, sym, ap, ◌∙◌, subst, arith}
use Rattle.std.specs.Prelude.{All, Contains, IfNone, IfSome, IsSome}
use Rattle.std.proofs.lemmas.Bool.{false≢true}
use Rattle.std.proofs.lemmas.List.{map_push}
use Rattle.std.proofs.lemmas.List.Elements.{All-contains, All-head, All-push, All-tail}
use Rattle.kb_geometry.specs.declared.shape.Shape.{Shape}
use Rattle.pattern_images.specs.declared.query.Query.{Query}
use Rattle.pattern_images.specs.Placements.{ArePlacements}
use Rattle.pattern_images.specs.Query.{IsForBoard}
use Rattle.ready_images.specs.Ready.{ReadyList}
use Rattle.search_engine.specs.ImagesMade.{AreReadyOn, QueryOnShapes}
use Rattle.search_engine.specs.Searching.{AreShapesAdded}
use Rattle.search_engine.proofs.ShapesSought.{AreShapesAdded-one}

-- the shapes of their boards
abbrev pub shapes_of : List ReadyList → List Shape
shapes_of ready = map (λ (r : ReadyList). r.images.shape) ready

-- a query, and the shapes of the boards on which its images are ready
abbrev pub shown_of : Query → List ReadyList → QueryOnShapes
shown_of query ready = record { query = query; shapes = shapes_of ready }

shape_there : (ready : List ReadyList) (r : ReadyList) → Contains ready r → Contains (shapes_of ready) r.images.shape
shape_there [] r (k, lt, is) = absurd (omega (arith, lt))
shape_there (x ∷ ready) r (zero, lt, is) = (zero, omega arith, ap (λ (y : ReadyList). y.images.shape) is)
shape_there (x ∷ ready) r (suc k, lt, is) =
    let (j, below, there) = shape_there ready r (k, omega (arith, lt), is) in
    (suc j, omega (arith, below), there)

none_there : (ready : List ReadyList) (shape : Shape) → All (λ (r : ReadyList). r.images.shape ≢ shape) ready → ¬ Contains (shapes_of ready) shape
none_there [] shape none (k, lt, is) = omega (arith, lt)
none_there (r ∷ ready) shape none (zero, lt, is) = All-head (λ (x : ReadyList). x.images.shape ≢ shape) r ready none is
none_there (r ∷ ready) shape none (suc k, lt, is) = none_there ready shape (All-tail (λ (x : ReadyList). x.images.shape ≢ shape) r ready none) (k, omega (arith, lt), is)

-- images that were found
pub record IsFoundOn (shown : QueryOnShapes) (shape : Shape) (found : ReadyList) : Type 0 where
  pub for_board : IsForBoard shown.query shape
  pub placements : ArePlacements shown.query shape found.images.placements
  pub among_shapes : Contains shown.shapes shape

module _ (query : Query) (ready read : List ReadyList) (shown : QueryOnShapes) (is : shown_of query ready ≡ shown) (same : read ≡ ready) (shape : Shape) where
  pub found_on : All (AreReadyOn query) ready → (found : ReadyList) → (found.images.shape ≡ shape) × Contains read found → IsFoundOn shown shape found
  found_on all found (at, there) =
      let here = subst (λ (rs : List ReadyList). Contains rs found) same there in
      let are = All-contains (AreReadyOn query) ready found all here in
      subst (λ (v : QueryOnShapes). IsFoundOn v shape found) is (record {
        for_board = subst (IsForBoard query) at are.for_board;
        placements = subst (λ (s : Shape). ArePlacements query s found.images.placements) at are.placements;
        among_shapes = subst (Contains (shapes_of ready)) at (shape_there ready found here);
      })

  not_on : All (λ (x : ReadyList). x.images.shape ≢ shape) read → ¬ Contains shown.shapes shape
  not_on none there = none_there ready shape (subst (All (λ (x : ReadyList). x.images.shape ≢ shape)) same none) (subst (λ (v : QueryOnShapes). Contains v.shapes shape) (sym is) there)

  pub none_on : {X : Type 0} (r : Option X) → IfNone r (All (λ (x : ReadyList). x.images.shape ≢ shape) read) → IfNone r (¬ Contains shown.shapes shape)
  none_on None none = not_on none
  none_on (Some r) none = tt

-- what is told of the value in a `Some`, where there is one
pub told_of_some : {X : Type 0} (r : Option X) (P : Type 0) → IfSome r (λ x. P) → IsSome r → P
told_of_some None P told some = absurd (false≢true some)
told_of_some (Some x) P told some = told

-- the images on boards of one shape more
module _ (query : Query) (ready new : List ReadyList) (made : ReadyList) (pushed : new ≡ ready ++ made ∷ []) (shape : Shape) (on : made.images.shape ≡ shape) where
  pub ready_more : All (AreReadyOn query) ready → IsForBoard query shape → ArePlacements query shape made.images.placements → All (AreReadyOn query) new
  ready_more all looks are = subst (All (AreReadyOn query)) (sym pushed) (All-push (AreReadyOn query) ready made all (record {
    for_board = subst (IsForBoard query) (sym on) looks;
    placements = subst (λ (s : Shape). ArePlacements query s made.images.placements) (sym on) are;
  }))

  pub shapes_more : (asked : Query) (old : List Shape) → shapes_of ready ≡ old → AreShapesAdded asked (shape ∷ []) old (shapes_of new)
  shapes_more asked old is =
      AreShapesAdded-one asked shape old (shapes_of new)
      (ap shapes_of pushed ∙ map_push (λ (r : ReadyList). r.images.shape) ready made ∙ ap (λ (s : Shape). shapes_of ready ++ s ∷ []) on ∙ ap (λ (ss : List Shape). ss ++ shape ∷ []) is)
