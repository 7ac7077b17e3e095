-- How many steps a search takes, one game and one block after another.
use Rattle.std.proofs.Common.{◌≡◌, ℕ, ◌+◌, ◌<◌, ◌≤◌, List, [], ◌∷◌, ◌++◌, Some, drop, get_or, length, refl, take, sym, ap, ◌∙◌, subst, arith}
use Rattle.std.specs.List.{slice_get}
use Rattle.std.proofs.lemmas.List.{take-append-drop, take_more}
use Rattle.std.proofs.lemmas.List.Concat.{flat_map-append}
use Rattle.std.proofs.lemmas.List.Sums.{sum_by-append, sum_by-cons}
use Rattle.std.proofs.lemmas.Option.{get_or_from_slice_get, slice_get_within}
use Rattle.game_tree.specs.Tree.{node_count}
use Rattle.node_position.specs.Games.{Game}
use Rattle.pattern_images.specs.declared.query.Query.{Query}
use Rattle.search_engine.specs.declared.item.Item.{Item}
use Rattle.search_engine.specs.Items.{AreItems, games_of_item, games_of_items}
use Rattle.search_engine.specs.KeptGames.{HaveKeptNodes, IsKeptGame}
use Rattle.search_engine.specs.ImagesMade.{QueryOnShapes}
use Rattle.search_engine.specs.StepBounds.{AreStepsIn}
use Rattle.search_engine.proofs.ItemLists.{games_to_next}
use Rattle.search_engine.proofs.KeptCounts.{KeptNodes-unique, in_parts}

module _ (query : Query) where
  -- no step
  pub AreStepsIn-none : (games : List Game) (count : ℕ) → AreStepsIn query games count count
  AreStepsIn-none games count = record { grows = omega arith; most = omega arith; of_kept = λ n have. omega arith }

  -- in a game that is kept there are at most as many as it has nodes
  pub AreStepsIn-game : (game : Game) (old new : ℕ) → IsKeptGame query game.tree → old ≤ new → new ≤ old + node_count game.tree → AreStepsIn query (game ∷ []) old new
  AreStepsIn-game game old new is grows most = record {
    grows = grows;
    most = let one = sum_by-cons (λ (h : Game). node_count h.tree) game [] in omega (arith, most, one);
    of_kept = λ n have.
        let all : n ≡ 0 + node_count game.tree = KeptNodes-unique query (game ∷ []) (game ∷ []) n (0 + node_count game.tree) have (HaveKeptNodes.kept game HaveKeptNodes.nothing is) refl in
        omega (arith, most, all);
  }

  -- in games, and in more of them
  pub AreStepsIn-both : (games more : List Game) (old mid new : ℕ) → AreStepsIn query games old mid → AreStepsIn query more mid new → AreStepsIn query (games ++ more) old new
  AreStepsIn-both games more old mid new one other = record {
    grows = omega (arith, one.grows, other.grows);
    most = let sum = sum_by-append (λ (g : Game). node_count g.tree) games more in omega (arith, one.most, other.most, sum);
    of_kept = λ n have.
        let parts = in_parts query more games n have in
        omega (arith, one.of_kept parts.first parts.are_first, other.of_kept parts.second parts.are_second, parts.together);
  }

  -- those in some games are among those in more
  AreStepsIn-front : (games more : List Game) (old new : ℕ) → AreStepsIn query games old new → AreStepsIn query (games ++ more) old new
  AreStepsIn-front games more old new one = AreStepsIn-both games more old new new one (AreStepsIn-none more new)

  -- ---- one game after another

  pub AreStepsIn-more : (games : List Game) (k : ℕ) (game : Game) (old mid new : ℕ) → slice_get games k ≡ Some game → AreStepsIn query (take k games) old mid → AreStepsIn query (game ∷ []) mid new → AreStepsIn query (take (k + 1) games) old new
  AreStepsIn-more games k game old mid new at so_far one =
      let next : take (k + 1) games ≡ take k games ++ game ∷ [] = take_more games k game (slice_get_within games k game at) ∙ ap (λ (g : Game). take k games ++ g ∷ []) (get_or_from_slice_get games k game game at) in
      subst (λ gs. AreStepsIn query gs old new) (sym next) (AreStepsIn-both (take k games) (game ∷ []) old mid new so_far one)

  -- those in the first so many games are among those in all
  pub AreStepsIn-all : (games : List Game) (k old new : ℕ) → AreStepsIn query (take k games) old new → AreStepsIn query games old new
  AreStepsIn-all games k old new one = subst (λ gs. AreStepsIn query gs old new) (take-append-drop k games) (AreStepsIn-front (take k games) (drop k games) old new one)

  -- ---- one block after another

  pub AreStepsIn-block : (items : List Item) (k : ℕ) (i : Item) (old mid new : ℕ) → k < length items → i ≡ get_or items k i → AreStepsIn query (games_of_items (take k items)) old mid → AreStepsIn query (games_of_item i) mid new → AreStepsIn query (games_of_items (take (k + 1) items)) old new
  AreStepsIn-block items k i old mid new lt at so_far one =
      subst (λ gs. AreStepsIn query gs old new) (sym (games_to_next items k i lt at)) (AreStepsIn-both (games_of_items (take k items)) (games_of_item i) old mid new so_far one)

  -- those in the first so many blocks are among those in all
  pub AreStepsIn-items : (items : List Item) (k old new : ℕ) → AreStepsIn query (games_of_items (take k items)) old new → AreStepsIn query (games_of_items items) old new
  AreStepsIn-items items k old new one =
      let cut : games_of_items (take k items) ++ games_of_items (drop k items) ≡ games_of_items items = sym (flat_map-append games_of_item (take k items) (drop k items)) ∙ ap games_of_items (take-append-drop k items) in
      subst (λ gs. AreStepsIn query gs old new) cut (AreStepsIn-front (games_of_items (take k items)) (games_of_items (drop k items)) old new one)

-- those in the games that blocks have
pub steps_of_items : (query : Query) (ready : QueryOnShapes) (items read : List Item) (first : ℕ) (games : List Game) (old new : ℕ) → ready.query ≡ query → read ≡ items → AreItems first games items → AreStepsIn ready.query (games_of_items read) old new → AreStepsIn query games old new
steps_of_items query ready items read first games old new of is are steps =
    subst (λ gs. AreStepsIn query gs old new) (ap games_of_items is ∙ are.has_games) (subst (λ (q : Query). AreStepsIn q (games_of_items read) old new) of steps)
