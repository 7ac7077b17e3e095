-- The count of kept games is that of their numbers.
use Rattle.std.proofs.Common.{◌≡◌, ℕ, ◌<◌, List, [], ◌∷◌, ◌++◌, length, refl, sym, ap, ◌∙◌, subst, arith}
use Rattle.std.specs.Prelude.{All}
use Rattle.std.proofs.lemmas.List.{append-nil, length_push}
use Rattle.game_tree.specs.Tree.{IsTree}
use Rattle.node_position.specs.Games.{Game}
use Rattle.pattern_images.specs.declared.query.Query.{Query}
use Rattle.search_engine.specs.KeptGames.{AreKept, AreNumbersOfKept, IsKeptGame}
use Rattle.search_engine.proofs.KeptCounts.{kept-found}
use Rattle.search_engine.proofs.NumberedLists.{AreThose, next-none, next-one, those-more, those-none, those-same}

module _ (query : Query) where
  abbrev itself : ℕ → ℕ
  itself n = n

  abbrev fits : Game → ℕ → Type 0
  fits game n = IsKeptGame query game.tree

  abbrev less : ℕ → ℕ → Type 0
  less a b = a < b

  abbrev those : List Game → List ℕ → Type 0
  those = AreThose itself fits less

  numbers-of : (games : List Game) (k : ℕ) → AreKept query games k → (numbers : List ℕ) × those games numbers × (length numbers ≡ k)
  numbers-of _ _ AreKept.nothing = ([], those-none itself fits less, refl)
  numbers-of _ _ (AreKept.kept {games = gs} {k = k} game so_far is) =
      let before = numbers-of gs k so_far in
      let next = next-one itself fits less (length gs) game (length gs) refl is (λ t e _. sym e) in
      (before.0 ++ length gs ∷ [], those-more itself fits less (λ a b lt. lt) gs before.0 before.1 game (length gs ∷ []) next, omega (arith, length_push before.0 (length gs), before.2))
  numbers-of _ _ (AreKept.left_out {games = gs} {k = k} game so_far not) =
      let before = numbers-of gs k so_far in
      let next = next-none itself fits less (length gs) game (λ _. not) in
      (before.0, subst (those (gs ++ game ∷ [])) (append-nil before.0) (those-more itself fits less (λ a b lt. lt) gs before.0 before.1 game [] next), before.2)

  pub kept-numbers : (games : List Game) (k : ℕ) → AreKept query games k → (numbers : List ℕ) × AreNumbersOfKept query games numbers × (length numbers ≡ k)
  kept-numbers games k are =
      let found = numbers-of games k are in
      (found.0, record { exactly = found.1.exactly; ascending = found.1.ordered }, found.2)

  pub numbers-kept : (games : List Game) (numbers : List ℕ) → All (λ (g : Game). IsTree g.tree) games → AreNumbersOfKept query games numbers → AreKept query games (length numbers)
  numbers-kept games numbers trees are =
      let counted = kept-found query games trees in
      let found = numbers-of games counted.0 counted.1 in
      let same = those-same itself fits less (λ a b one other. omega arith) games numbers found.0 (record { exactly = are.exactly; ordered = are.ascending }) found.1 in
      subst (AreKept query games) (sym (ap length same ∙ found.2)) counted.1
