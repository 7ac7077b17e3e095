-- As many games are kept as bits are set.
use Prim.Native.Nat.{zero}
use lib.Count.{ones_step, ones-le}
use native.Mathlib.Nat.{pow-suc}
use Rattle.std.proofs.Common.{◌≡◌, ℕ, suc, ◌+◌, ◌-◌, ◌/◌, ◌%◌, ◌^◌, ◌<◌, ◌≤◌, ◌↔◌, List, [], ◌∷◌, Some, count_ones, inl, inr, length, length-append, length-drop, refl, sym, ◌∙◌, subst, arith}
use Rattle.std.specs.Int.{bit_at}
use Rattle.std.specs.List.{slice_get}
use Rattle.std.proofs.lemmas.Bool.{cases_eq}
use Rattle.std.proofs.lemmas.Nat.{shr_below}
use Rattle.std.proofs.lemmas.Nat.Bits.{bit_at-suc, bit_at_lowest}
use Rattle.std.proofs.lemmas.Option.{get_or_from_slice_get, slice_get_within}
use Rattle.kb_geometry.specs.declared.shape.Shape.{Shape}
use Rattle.node_position.specs.Games.{Game}
use Rattle.pattern_images.specs.declared.query.Query.{Query}
use Rattle.search_engine.specs.declared.item.Item.{Item}
use Rattle.search_engine.specs.Items.{games_of_item}
use Rattle.search_engine.specs.KeptBlocks.{AreKeptInBlock}
use Rattle.search_engine.specs.KeptGames.{AreKept, IsKeptGame}
use Rattle.search_engine.specs.Searching.{AreCovered, IsCovered}
use Rattle.search_engine.proofs.CutLists.{slice_get-drop}
use Rattle.search_engine.proofs.GameBits.{bit_at-shr}
use Rattle.search_engine.proofs.KeptCounts.{AreKept-append}

-- a word without a bit has none to be counted
ones-none : (bits word : ℕ) → word < 2 ^ bits → ((k : ℕ) → k < bits → bit_at word k ≡ 0) → count_ones word ≡ 0
ones-none zero word fits none = omega (arith, ones-le 0 word fits)
ones-none (suc bits) word fits none =
    let half : word / 2 < 2 ^ bits = omega (arith, fits, pow-suc 2 bits) in
    let rest = ones-none bits (word / 2) half (λ k lt. sym (bit_at-suc word k) ∙ none (suc k) (omega (arith, lt))) in
    omega (arith, ones_step word, rest, bit_at_lowest word, none 0 (omega arith))

module _ (query : Query) where
  -- the first game by the lowest bit
  first-one : (game : Game) (word : ℕ) → (bit_at word 0 ≡ 1) ↔ IsKeptGame query game.tree → AreKept query (game ∷ []) (word % 2)
  first-one game word told = elim (cases_eq (word % 2) 1) [
    | inl one ↦ subst (AreKept query (game ∷ [])) (sym one) (AreKept.kept game AreKept.nothing (told.0 (bit_at_lowest word ∙ one)))
    | inr other ↦
        let none : 0 ≡ word % 2 = omega (arith, other) in
        subst (AreKept query (game ∷ [])) none (AreKept.left_out game AreKept.nothing (λ is. other (sym (bit_at_lowest word) ∙ told.1 is)))
  ]

  -- so many games are kept as a word has bits that tell of each whether it is
  pub counted : (bits : ℕ) (games : List Game) (word : ℕ) → word < 2 ^ bits → length games ≤ bits → ((k : ℕ) (game : Game) → slice_get games k ≡ Some game → (bit_at word k ≡ 1) ↔ IsKeptGame query game.tree)
      → ((k : ℕ) → length games ≤ k → k < bits → bit_at word k ≡ 0) → AreKept query games (count_ones word)
  counted bits [] word fits few told none = subst (AreKept query []) (sym (ones-none bits word fits (λ k lt. none k (omega arith) lt))) AreKept.nothing
  counted zero (game ∷ games) word fits few told none = absurd (omega (arith, few))
  counted (suc bits) (game ∷ games) word fits few told none =
      let half : word / 2 < 2 ^ bits = omega (arith, fits, pow-suc 2 bits) in
      let rest = counted bits games (word / 2) half (omega (arith, few))
      (λ k g at. (λ e. (told (suc k) g at).0 (bit_at-suc word k ∙ e), λ is. sym (bit_at-suc word k) ∙ (told (suc k) g at).1 is))
      (λ k ge lt. sym (bit_at-suc word k) ∙ none (suc k) (omega (arith, ge)) (omega (arith, lt))) in
      subst (AreKept query (game ∷ games)) (sym (ones_step word)) (AreKept-append query (game ∷ []) (word % 2) (first-one game word (told 0 game refl)) games (count_ones (word / 2)) rest)

  -- no more are kept than there are
  pub kept-most : (games : List Game) (n : ℕ) → AreKept query games n → n ≤ length games
  kept-most _ _ AreKept.nothing = omega arith
  kept-most _ _ (AreKept.kept {games = gs} {k = k} game so_far is) = omega (arith, kept-most gs k so_far, length-append gs (game ∷ []))
  kept-most _ _ (AreKept.left_out {games = gs} {k = k} game so_far not) = omega (arith, kept-most gs k so_far, length-append gs (game ∷ []))

  -- those of a block but for the first so many
  pub kept-behind : (shapes : List Shape) (item : Item) (word : ℕ) → AreKeptInBlock query shapes item.block.now word → AreCovered query shapes (games_of_item item) → AreKept query (games_of_item item) (count_ones (word / 2 ^ item.skip))
  kept-behind shapes item word are covered =
      let skip = item.skip in
      let block = item.block.now in
      let games = games_of_item item in
      let left = length-drop skip block in
      let whole : 64 - skip + skip ≡ 64 = omega (arith, item.few) in
      let below : word / 2 ^ skip < 2 ^ (64 - skip) = shr_below word (64 - skip) skip (subst (λ (n : ℕ). word < 2 ^ n) (sym whole) are.small) in
      counted (64 - skip) games (word / 2 ^ skip) below (omega (arith, left, are.most))
      (λ k game at.
      let there = sym (slice_get-drop skip block k) ∙ at in
      let covers = subst (λ (g : Game). IsCovered query shapes g.tree.shape) (get_or_from_slice_get games k game game at) (covered k game (slice_get_within games k game at)) in
      let told = are.exact (skip + k) game there covers in
      (λ e. told.0 (sym (bit_at-shr word skip k) ∙ e), λ is. bit_at-shr word skip k ∙ told.1 is))
      (λ k ge lt. bit_at-shr word skip k ∙ are.no_others (skip + k) (omega (arith, ge, left)) (omega (arith, lt)))
