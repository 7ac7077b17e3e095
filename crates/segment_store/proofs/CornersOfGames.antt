-- Which games had which number in a corner: no game, one game, and two lists of games.
use Prim.Native.Nat.{zero}
use Rattle.std.proofs.Common.{◌≡◌, ℕ, suc, ◌+◌, ◌-◌, ◌<◌, ◌≤◌, List, [], ◌∷◌, ◌++◌, Option, drop, length, map, take, refl, sym, ap, ◌∙◌, subst, arith, inl, inr}
use Rattle.std.specs.List.{slice_get}
use Rattle.std.specs.Option.{IsSomeAnd}
use Rattle.std.proofs.lemmas.Bool.{cases_lt}
use Rattle.std.proofs.lemmas.List.{map-append, take-append-drop}
use Rattle.corner_index.specs.CornerGames.{Entry, HaveGamesBelow, IsIndexOf, IsIndexOfBoth}
use Rattle.capture_board.specs.Deltas.{Deltas}
use Rattle.node_position.specs.Games.{AreNodeChanges, Game}
use Rattle.segment_store.specs.CornersOfGames.{AreCornersOfGames}
use Rattle.segment_store.specs.Finished.{AreCornersOfTree, HadCornerNumber}

-- ---- elements of lists that are there
module _ {X : Type 0} where
  some_within : (xs : List X) (i : ℕ) (P : X → Type 0) → IsSomeAnd (slice_get xs i) P → i < length xs
  some_within [] i P there = absurd there
  some_within (x ∷ xs) zero P there = omega arith
  some_within (x ∷ xs) (suc i) P there = let rest = some_within xs i P there in omega (arith, rest)

  slice_get-left : (xs ys : List X) (i : ℕ) → i < length xs → slice_get (xs ++ ys) i ≡ slice_get xs i
  slice_get-left [] ys i lt = absurd (omega (arith, lt))
  slice_get-left (x ∷ xs) ys zero lt = refl
  slice_get-left (x ∷ xs) ys (suc i) lt = slice_get-left xs ys i (omega (arith, lt))

  slice_get-behind : (xs ys : List X) (i : ℕ) → slice_get (xs ++ ys) (length xs + i) ≡ slice_get ys i
  slice_get-behind [] ys i = ap (slice_get ys) (omega arith)
  slice_get-behind (x ∷ xs) ys i = let next : length (x ∷ xs) + i ≡ suc (length xs + i) = omega arith in ap (slice_get (x ∷ (xs ++ ys))) next ∙ slice_get-behind xs ys i

-- the first elements of a list, and the others
pub parts_joined : {X Y : Type 0} (v : X → Y) (xs first others : List X) (n : ℕ) → first ≡ take n xs → others ≡ drop n xs → map v first ++ map v others ≡ map v xs
parts_joined v xs first others n is are =
    sym (map-append v first others) ∙ ap (map v) (ap (λ ys. ys ++ others) is ∙ (ap (λ ys. take n xs ++ ys) are ∙ take-append-drop n xs))

-- the game with this number had the number in the corner
abbrev pub HadIn : List Game → ℕ → ℕ → ℕ → Type 0
HadIn games g corner key = IsSomeAnd (slice_get games g) (λ game. HadCornerNumber game corner key)

had_within : (games : List Game) (g corner key : ℕ) → HadIn games g corner key → g < length games
had_within games g corner key = some_within games g (λ game. HadCornerNumber game corner key)

pub AreCornersOfGames-none : (games : List Game) (index : List (List Entry)) → length games < 1 → IsIndexOf [] index → AreCornersOfGames games index
AreCornersOfGames-none games index few is corner lt key g = (
  λ there. absurd (omega (arith, ((is corner lt key g).0 there).0)),
  λ had. absurd (omega (arith, few, had_within games g corner key had)),
)

module _ (game : Game) (changes : Deltas) (keys : List (List ℕ)) (index : List (List Entry)) (of_tree : AreNodeChanges game.tree changes) (are : AreCornersOfTree game.tree keys) (is : IsIndexOf (keys ∷ []) index) where
  pub AreCornersOfGames-one : AreCornersOfGames (game ∷ []) index
  AreCornersOfGames-one corner lt key zero = (
    λ there other others. (are other others corner lt key).0 ((is corner lt key 0).0 there).1,
    λ had. (is corner lt key 0).1 (omega arith, (are changes of_tree corner lt key).1 (had changes of_tree)),
  )
  AreCornersOfGames-one corner lt key (suc g) = (
    λ there. absurd (omega (arith, ((is corner lt key (suc g)).0 there).0)),
    λ had. absurd had,
  )

module _ (one other : List Game) (a b : List (List Entry)) (of_one : AreCornersOfGames one a) (of_other : AreCornersOfGames other b) where
  pub AreCornersOfGames-joined : (joined : List (List Entry)) (first : ℕ) → first ≡ length one → IsIndexOfBoth a b first joined → AreCornersOfGames (one ++ other) joined
  AreCornersOfGames-joined joined first long are corner lt key g = (
    λ there. elim ((are corner lt key g).0 there) [
      | inl of_a ↦
          let had = (of_one corner lt key g).0 of_a in
          subst (λ (o : Option Game). IsSomeAnd o (λ game. HadCornerNumber game corner key)) (sym (slice_get-left one other g (had_within one g corner key had))) had
      | inr (h, of_b, moved) ↦
          let at : length one + h ≡ g = omega (arith, moved, long) in
          subst (λ n. HadIn (one ++ other) n corner key) at
          (subst (λ (o : Option Game). IsSomeAnd o (λ game. HadCornerNumber game corner key)) (sym (slice_get-behind one other h)) ((of_other corner lt key h).0 of_b))
    ],
    λ had. elim (cases_lt g (length one)) [
      | inl before ↦ (are corner lt key g).1 (inl ((of_one corner lt key g).1 (subst (λ (o : Option Game). IsSomeAnd o (λ game. HadCornerNumber game corner key)) (slice_get-left one other g before) had)))
      | inr behind ↦
          let h = g - length one in
          let at : g ≡ length one + h = omega (arith, behind) in
          let own : HadIn other h corner key =
          subst (λ (o : Option Game). IsSomeAnd o (λ game. HadCornerNumber game corner key)) (slice_get-behind one other h) (subst (λ n. HadIn (one ++ other) n corner key) at had) in
          (are corner lt key g).1 (inr (h, (of_other corner lt key h).1 own, omega (arith, at, long)))
    ],
  )

-- an index has no other games than those of its list
pub AreCornersOfGames-below : (games : List Game) (index : List (List Entry)) (count : ℕ) → AreCornersOfGames games index → length games ≤ count → HaveGamesBelow index count
AreCornersOfGames-below games index count are few corner lt key g there =
    let within = had_within games g corner key ((are corner lt key g).0 there) in
    omega (arith, within, few)
