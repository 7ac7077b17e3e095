-- Searching one block after another.
use Rattle.std.proofs.Common.{◌≡◌, ℕ, ◌+◌, ◌<◌, ◌≤◌, List, [], ◌++◌, drop, get_or, length, length-append, refl, take, sym, ap, ◌∙◌, subst, arith}
use Rattle.std.proofs.lemmas.List.{get_or-append-add, length-drop, take-append-drop, take_all}
use Rattle.kb_geometry.proofs.Lists.{All-before}
use Rattle.std.proofs.lemmas.List.Concat.{flat_map-append, get_or-flat_map}
use Rattle.std.proofs.lemmas.List.Folds.{length-flat_map-take}
use Rattle.std.specs.List.{flat_map}
use Rattle.std.specs.Prelude.{All}
use Rattle.kb_geometry.specs.declared.shape.Shape.{Shape}
use Rattle.node_position.specs.Games.{Game}
use Rattle.pattern_images.specs.declared.hit.Hit.{Hit}
use Rattle.pattern_images.specs.declared.query.Query.{Query}
use Rattle.info_filter.specs.declared.filter.Filter.{Filter}
use Rattle.search_engine.specs.declared.item.Item.{Item}
use Rattle.search_engine.specs.Hits.{AreHitsFrom}
use Rattle.search_engine.specs.Items.{AreItems, AreNumberedFrom, games_of_item, games_of_items}
use Rattle.search_engine.specs.Searching.{AreCovered, AreFirstHitsAdded, AreHitsAdded, AreItemHitsAdded, IsCovered}
use Rattle.search_engine.proofs.GamesSearched.{AreHitsAdded-parts, AreHitsFrom-none}
use Rattle.search_engine.proofs.ItemLists.{AreNumberedFrom-piece, games_to_next, games_to_piece}

-- what holds of all elements holds of those of each part
pub All-of_part : {X Y : Type 0} (P : Y → Type 0) (f : X → List Y) (xs : List X) (k : ℕ) (x : X) → k < length xs → x ≡ get_or xs k x → All P (flat_map f xs) → All P (f x)
All-of_part P f xs k x lt at all =
    subst (λ y. All P (f y)) (sym at)
    (λ j d below. subst P (get_or-flat_map f xs k j x d lt below) (all (length (flat_map f (take k xs)) + j) d (omega (arith, below, length-flat_map-take f xs k x lt))))

-- what holds of all holds of the last ones
All-behind : {X : Type 0} (P : X → Type 0) (xs ys : List X) → All P (xs ++ ys) → All P ys
All-behind P xs ys all k d lt = subst P (get_or-append-add xs ys k d) (all (length xs + k) d (omega (arith, lt, length-append xs ys)))

-- what holds of the games of all blocks holds of those of some in a row
pub All-of_sublist : (P : Game → Type 0) (items : List Item) (from count : ℕ) → All P (games_of_items items) → All P (games_of_items (take count (drop from items)))
All-of_sublist P items from count all =
    let games = games_of_items items in
    let cut : games ≡ games_of_items (take (from + count) items) ++ games_of_items (drop (from + count) items) = ap games_of_items (sym (take-append-drop (from + count) items)) ∙ flat_map-append games_of_item (take (from + count) items) (drop (from + count) items) in
    let front = All-before P (games_of_items (take (from + count) items)) (games_of_items (drop (from + count) items)) (subst (All P) cut all) in
    All-behind P (games_of_items (take from items)) (games_of_items (take count (drop from items))) (subst (All P) (games_to_piece items from count) front)

module _ (query : Query) (filter : Filter) (shapes : List Shape) (items : List Item) where
  -- ---- one block after another

  -- the hits of the first so many blocks are added
  abbrev pub so_far : ℕ → List Hit → List Hit → Type 0
  so_far k old new = AreFirstHitsAdded query filter shapes items k old new

  pub so_far-none : (hits : List Hit) → so_far 0 hits hits
  so_far-none hits first numbered covered = AreHitsFrom-none first query filter hits

  pub so_far-more : (k : ℕ) (i : Item) (old mid new : List Hit) → k < length items → i ≡ get_or items k i → so_far k old mid → (AreCovered query shapes (games_of_item i) → AreHitsAdded (AreHitsFrom i.first query filter (games_of_item i)) mid new) → so_far (k + 1) old new
  so_far-more k i old mid new lt at before added first numbered covered =
      let number : i.first ≡ first + length (games_of_items (take k items)) = ap (λ (j : Item). j.first) at ∙ numbered k i lt in
      let here = added (All-of_part (λ (g : Game). IsCovered query shapes g.tree.shape) games_of_item items k i lt at covered) in
      subst (λ gs. AreHitsAdded (AreHitsFrom first query filter gs) old new) (sym (games_to_next items k i lt at))
      (AreHitsAdded-parts first query filter old (games_of_items (take k items)) (games_of_item i) mid new i.first number (before first numbered covered) here)

  pub so_far-all : (k : ℕ) (old new : List Hit) → length items ≤ k → so_far k old new → AreItemHitsAdded query filter shapes items old new
  so_far-all k old new all before first numbered covered = subst (λ is. AreHitsAdded (AreHitsFrom first query filter (games_of_items is)) old new) (take_all k items all) (before first numbered covered)

  -- what is added to nothing
  pub hits_alone : (hits : List Hit) (first : ℕ) → AreItemHitsAdded query filter shapes items [] hits → AreNumberedFrom first items → AreCovered query shapes (games_of_items items) → AreHitsFrom first query filter (games_of_items items) hits
  hits_alone hits first are numbered covered = let added = are first numbered covered in subst (λ hs. AreHitsFrom first query filter (games_of_items items) hs) (sym added.added) added.are_hits

  -- the hits of the first so many blocks, which are all
  pub hits_of_first : (k : ℕ) (first : ℕ) (new : List Hit) → length items ≤ k → so_far k [] new → AreNumberedFrom first items → AreCovered query shapes (games_of_items items) → AreHitsFrom first query filter (games_of_items items) new
  hits_of_first k first new all before numbered covered = hits_alone new first (so_far-all k [] new all before) numbered covered

  -- the hits of the first so many blocks, and those of the others behind them
  pub hits_behind_first : (k : ℕ) (first : ℕ) (mid new : List Hit) → so_far k [] mid → AreItemHitsAdded query filter shapes (drop k items) mid new → AreNumberedFrom first items → AreCovered query shapes (games_of_items items) → AreHitsFrom first query filter (games_of_items items) new
  hits_behind_first k first mid new before behind numbered covered =
      let done = games_of_items (take k items) in
      let all : take (length items) (drop k items) ≡ drop k items = take_all (length items) (drop k items) (omega (arith, length-drop k items)) in
      let number = subst (AreNumberedFrom (first + length done)) all (AreNumberedFrom-piece first items k (length items) numbered) in
      let covers = subst (λ is. AreCovered query shapes (games_of_items is)) all (All-of_sublist (λ (g : Game). IsCovered query shapes g.tree.shape) items k (length items) covered) in
      let cut : done ++ games_of_items (drop k items) ≡ games_of_items items = sym (flat_map-append games_of_item (take k items) (drop k items)) ∙ ap games_of_items (take-append-drop k items) in
      let added = AreHitsAdded-parts first query filter [] done (games_of_items (drop k items)) mid new (first + length done) refl (before first numbered covered) (behind (first + length done) number covers) in
      subst (λ gs. AreHitsFrom first query filter gs new) cut
      (subst (λ hs. AreHitsFrom first query filter (done ++ games_of_items (drop k items)) hs) (sym added.added) added.are_hits)

-- the hits of the games that blocks have
pub hits_of_items : (query : Query) (filter : Filter) (shapes : List Shape) (items : List Item) (first : ℕ) (games : List Game) (old new : List Hit) → AreItems first games items → AreCovered query shapes (games_of_items items) → old ≡ [] → AreItemHitsAdded query filter shapes items old new → AreHitsFrom first query filter games new
hits_of_items query filter shapes items first games old new are covered none added =
    subst (λ gs. AreHitsFrom first query filter gs new) are.has_games
    (hits_alone query filter shapes items new first (subst (λ hs. AreItemHitsAdded query filter shapes items hs new) none added) are.numbered covered)
