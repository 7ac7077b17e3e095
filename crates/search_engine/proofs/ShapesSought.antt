-- The shapes of the boards on which a query looks, one after another.
use Rattle.std.proofs.Common.{◌≡◌, ℕ, zero, suc, inl, inr, ◌+◌, ◌<◌, List, [], ◌∷◌, ◌++◌, drop, get_or, length, map, take, sym, ap, ◌∙◌, subst, arith}
use Rattle.std.specs.Prelude.{Contains}
use Rattle.std.proofs.lemmas.List.{get_or-map, length-map, map-append, take-append-drop, take_more}
use Rattle.std.proofs.lemmas.List.Elements.{Contains-append_cases, Contains-append_left, Contains-append_right, Contains-push}
use Rattle.kb_geometry.specs.declared.shape.Shape.{Shape}
use Rattle.node_position.specs.Games.{Game}
use Rattle.pattern_images.specs.declared.query.Query.{Query}
use Rattle.pattern_images.specs.Query.{IsForBoard}
use Rattle.segment_store.specs.BoardShapes.{HaveShapes}
use Rattle.search_engine.specs.declared.item.Item.{Item}
use Rattle.search_engine.specs.Items.{games_of_item, games_of_items}
use Rattle.search_engine.specs.Searching.{AreCovered, AreShapesAdded}
use Rattle.search_engine.proofs.ItemLists.{games_to_next}

abbrev pub shapes_in : List Game → List Shape
shapes_in games = map (λ (g : Game). g.tree.shape) games

module _ (query : Query) where
  -- no shape
  pub AreShapesAdded-none : (old : List Shape) → AreShapesAdded query [] old old
  AreShapesAdded-none old = record { kept = λ s there. there; added = λ s (k, below, is). absurd (omega (arith, below)) }

  -- a shape on which the query doesn't look, or that is there
  pub AreShapesAdded-nothing : (shape : Shape) (old : List Shape) → (IsForBoard query shape → Contains old shape) → AreShapesAdded query (shape ∷ []) old old
  AreShapesAdded-nothing shape old covered = record {
    kept = λ s there. there;
    added = λ s in_one. let same : shape ≡ s = only s in_one in subst (λ (t : Shape). IsForBoard query t → Contains old t) same covered;
  }
    where
      only : (s : Shape) → Contains (shape ∷ []) s → shape ≡ s
      only s (zero, below, is) = is
      only s (suc k, below, is) = absurd (omega (arith, below))

  -- a shape that isn't there yet
  pub AreShapesAdded-one : (shape : Shape) (old new : List Shape) → new ≡ old ++ shape ∷ [] → AreShapesAdded query (shape ∷ []) old new
  AreShapesAdded-one shape old new pushed = subst (λ ss. AreShapesAdded query (shape ∷ []) old ss) (sym pushed) (record {
    kept = λ s there. Contains-append_left old (shape ∷ []) s there;
    added = λ s in_one looks_there. subst (Contains (old ++ shape ∷ [])) (only s in_one) (Contains-push old shape);
  })
    where
      only : (s : Shape) → Contains (shape ∷ []) s → shape ≡ s
      only s (zero, below, is) = is
      only s (suc k, below, is) = absurd (omega (arith, below))

  -- some shapes, and then more
  pub AreShapesAdded-both : (one other old mid new : List Shape) → AreShapesAdded query one old mid → AreShapesAdded query other mid new → AreShapesAdded query (one ++ other) old new
  AreShapesAdded-both one other old mid new first second = record {
    kept = λ s there. second.kept s (first.kept s there);
    added = λ s there looks. elim (Contains-append_cases one other s there) [
      | inl before ↦ second.kept s (first.added s before looks)
      | inr behind ↦ second.added s behind looks
    ];
  }

  -- one more of a list
  pub AreShapesAdded-more : (shapes old mid new : List Shape) (k : ℕ) (shape : Shape) → k < length shapes → shape ≡ get_or shapes k shape → AreShapesAdded query (take k shapes) old mid → AreShapesAdded query (shape ∷ []) mid new → AreShapesAdded query (take (k + 1) shapes) old new
  AreShapesAdded-more shapes old mid new k shape lt at so_far added =
      subst (λ ss. AreShapesAdded query ss old new) (sym (take_more shapes k shape lt ∙ ap (λ (s : Shape). take k shapes ++ s ∷ []) (sym at)))
      (AreShapesAdded-both (take k shapes) (shape ∷ []) old mid new so_far added)

  -- the shapes of games are these
  pub AreShapesAdded-of_games : (games : List Game) (shapes old new : List Shape) → HaveShapes games shapes → AreShapesAdded query shapes old new → AreShapesAdded query (shapes_in games) old new
  AreShapesAdded-of_games games shapes old new have are = record { kept = are.kept; added = λ s there looks. are.added s ((have s).1 there) looks }

  -- the shapes of games, or of some more, are these
  pub AreShapesAdded-of_last : (skip : ℕ) (games : List Game) (shapes old new : List Shape) → HaveShapes games shapes → AreShapesAdded query shapes old new → AreShapesAdded query (shapes_in (drop skip games)) old new
  AreShapesAdded-of_last skip games shapes old new have are =
      let all = AreShapesAdded-of_games games shapes old new have are in
      let parts : shapes_in (take skip games) ++ shapes_in (drop skip games) ≡ shapes_in games = sym (map-append (λ (g : Game). g.tree.shape) (take skip games) (drop skip games)) ∙ ap shapes_in (take-append-drop skip games) in
      record {
        kept = all.kept;
        added = λ s there. all.added s (subst (λ ss. Contains ss s) parts (Contains-append_right (shapes_in (take skip games)) (shapes_in (drop skip games)) s there));
      }

  -- one block more
  pub AreShapesAdded-block : (items : List Item) (k : ℕ) (i : Item) (shapes old mid new : List Shape) → k < length items → i ≡ get_or items k i → HaveShapes i.block.now shapes → AreShapesAdded query (shapes_in (games_of_items (take k items))) old mid → AreShapesAdded query shapes mid new → AreShapesAdded query (shapes_in (games_of_items (take (k + 1) items))) old new
  AreShapesAdded-block items k i shapes old mid new lt at have so_far added =
      let before = games_of_items (take k items) in
      subst (λ ss. AreShapesAdded query ss old new) (sym (ap shapes_in (games_to_next items k i lt at) ∙ map-append (λ (g : Game). g.tree.shape) before (games_of_item i)))
      (AreShapesAdded-both (shapes_in before) (shapes_in (games_of_item i)) old mid new so_far (AreShapesAdded-of_last i.skip i.block.now shapes mid new have added))

  -- the shapes of the boards of all games are there
  pub AreCovered-added : (games : List Game) (old new : List Shape) → AreShapesAdded query (shapes_in games) old new → AreCovered query new games
  AreCovered-added games old new are k d lt = are.added (get_or games k d).tree.shape (k, omega (arith, lt, length-map games (λ (g : Game). g.tree.shape)), get_or-map (λ (g : Game). g.tree.shape) games k d (get_or games k d).tree.shape lt)
