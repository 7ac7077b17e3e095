-- The shapes of the boards of games, one game after another.
use Rattle.std.proofs.Common.{◌≡◌, ℕ, inl, inr, ◌+◌, ◌<◌, List, [], ◌∷◌, ◌++◌, get_or, length, map, take, ap, sym, subst, ◌∙◌, arith}
use Rattle.std.specs.Prelude.{All, Contains}
use Rattle.std.proofs.lemmas.List.{get_or-map, length-map, map_push, take_more}
use Rattle.std.proofs.lemmas.List.Elements.{All-push, Contains-append_left, Contains-push, Contains-push_cases}
use Rattle.kb_geometry.specs.declared.shape.Shape.{Shape}
use Rattle.game_tree.specs.Tree.{IsTree}
use Rattle.node_position.specs.Games.{Game}
use Rattle.segment_store.specs.BoardShapes.{AreShapesWith, HaveShapes}

-- no game
pub HaveShapes-none : HaveShapes [] []
HaveShapes-none s = (λ there. there, λ there. there)

shape_of : Game → Shape
shape_of g = g.tree.shape

-- one game more
HaveShapes-push : (games : List Game) (g : Game) (old new : List Shape) → HaveShapes games old → AreShapesWith g.tree.shape old new → HaveShapes (games ++ g ∷ []) new
HaveShapes-push games g old new so_far with_it s =
    let one_more = map_push (λ (h : Game). h.tree.shape) games g in
    let shapes = map (λ (h : Game). h.tree.shape) games in (
      λ there. subst (λ xs. Contains xs s) (sym one_more) (elim ((with_it s).0 there) [
        | inl before ↦ Contains-append_left shapes (g.tree.shape ∷ []) s ((so_far s).0 before)
        | inr same ↦ subst (λ t. Contains (shapes ++ g.tree.shape ∷ []) t) same (Contains-push shapes g.tree.shape)
      ]),
      λ there. (with_it s).1 (elim (Contains-push_cases shapes g.tree.shape s (subst (λ xs. Contains xs s) one_more there)) [
        | inl before ↦ inl ((so_far s).1 before)
        | inr same ↦ inr same
      ]),
    )

pub HaveShapes-more : {X : Type 0} (v : X → Game) (xs : List X) (k : ℕ) (x : X) (shape : Shape) (old new : List Shape) → k < length xs → x ≡ get_or xs k x → shape ≡ (v x).tree.shape → HaveShapes (map v (take k xs)) old → AreShapesWith shape old new → HaveShapes (map v (take (k + 1) xs)) new
HaveShapes-more v xs k x shape old new lt at is so_far with_it =
    let next : map v (take (k + 1) xs) ≡ map v (take k xs) ++ v x ∷ [] = ap (map v) (take_more xs k x lt) ∙ map_push v (take k xs) (get_or xs k x) ∙ ap (λ y. map v (take k xs) ++ v y ∷ []) (sym at) in
    subst (λ gs. HaveShapes gs new) (sym next) (HaveShapes-push (map v (take k xs)) (v x) old new so_far (subst (λ s. AreShapesWith s old new) is with_it))

-- one game more that is a tree
pub trees-more : {X : Type 0} (v : X → Game) (xs : List X) (k : ℕ) (x : X) → k < length xs → x ≡ get_or xs k x → IsTree (v x).tree → All (λ (g : Game). IsTree g.tree) (map v (take k xs)) → All (λ (g : Game). IsTree g.tree) (map v (take (k + 1) xs))
trees-more v xs k x lt at is so_far =
    let next : map v (take (k + 1) xs) ≡ map v (take k xs) ++ v x ∷ [] = ap (map v) (take_more xs k x lt) ∙ map_push v (take k xs) (get_or xs k x) ∙ ap (λ y. map v (take k xs) ++ v y ∷ []) (sym at) in
    subst (λ gs. All (λ (g : Game). IsTree g.tree) gs) (sym next) (All-push (λ (g : Game). IsTree g.tree) (map v (take k xs)) (v x) so_far is)

-- the game at a place
pub tree-at : {X : Type 0} (v : X → Game) (xs : List X) (k : ℕ) (x : X) → k < length xs → x ≡ get_or xs k x → All (λ (g : Game). IsTree g.tree) (map v xs) → IsTree (v x).tree
tree-at v xs k x lt at are =
    subst (λ (g : Game). IsTree g.tree) (get_or-map v xs k x (v x) lt ∙ ap v (sym at)) (are k (v x) (omega (arith, lt, length-map xs v)))
