-- The entries of the four corners.
use Rattle.std.proofs.Common.{◌≡◌, ℕ, zero, suc, ◌+◌, ◌-◌, ◌<◌, ◌≤◌, ◌↔◌, List, [], ◌∷◌, ◌++◌, length, get_or, length-append, refl, sym, ap, ◌∙◌, subst, arith, inl, inr}
use Rattle.std.specs.Prelude.{Contains}
use Rattle.std.proofs.lemmas.Bool.{cases_lt}
use Rattle.std.proofs.lemmas.List.{get_or-append-add, get_or_append_left}
use Rattle.corner_index.specs.Corners.{keys_of}
use Rattle.corner_index.specs.CornerGames.{AreEntriesOf, Entry, HaveGamesBelow, IsIndexOf, IsIndexOfBoth, entries_in, entry}

-- what holds of the entries of each corner
pub four : (P : ℕ → List Entry → Type 0) (a b c d : List Entry) → P 0 a → P 1 b → P 2 c → P 3 d → (corner : ℕ) → corner < 4 → P corner (entries_in (a ∷ b ∷ c ∷ d ∷ []) corner)
four P a b c d first second third fourth zero lt = first
four P a b c d first second third fourth (suc zero) lt = second
four P a b c d first second third fourth (suc (suc zero)) lt = third
four P a b c d first second third fourth (suc (suc (suc zero))) lt = fourth
four P a b c d first second third fourth (suc (suc (suc (suc n)))) lt = absurd (omega (arith, lt))

-- the entries of a list of one game
pub AreEntriesOf-one : (keys : List (List ℕ)) (corner : ℕ) (own : List ℕ) (entries : List Entry) → own ≡ keys_of keys corner → ((key g : ℕ) → Contains entries (entry key g) ↔ ((g < 1) × Contains own key)) → AreEntriesOf (keys ∷ []) corner entries
AreEntriesOf-one keys corner own entries same are key g = (
  λ c.
      let (small, there) = (are key g).0 c in
      let none : 0 ≡ g = omega (arith, small) in
      (small, subst (λ n. Contains (keys_of (get_or (keys ∷ []) n []) corner) key) none (subst (λ xs. Contains xs key) same there)),
  λ (small, there).
      let none : g ≡ 0 = omega (arith, small) in
      (are key g).1 (small, subst (λ xs. Contains xs key) (sym same) (subst (λ n. Contains (keys_of (get_or (keys ∷ []) n []) corner) key) none there)),
)

-- the entries of two lists of games, one behind the other
pub IsIndexOf-joined : (a b joined : List (List Entry)) (first : ℕ) → IsIndexOfBoth a b first joined → (one other : List (List (List ℕ))) → IsIndexOf one a → length one ≡ first → IsIndexOf other b → IsIndexOf (one ++ other) joined
IsIndexOf-joined a b joined first are one other one_is long other_is corner lt key g =
    let both : length (one ++ other) ≡ length one + length other = length-append one other in (
      λ c. elim ((are corner lt key g).0 c) [
        | inl of_a ↦
            let (low, there) = (one_is corner lt key g).0 of_a in
            (omega (arith, low, both), subst (λ keys. Contains (keys_of keys corner) key) (sym (get_or_append_left one other [] g low)) there)
        | inr (h, of_b, moved) ↦
            let (low, there) = (other_is corner lt key h).0 of_b in
            let at : length one + h ≡ g = omega (arith, moved, long) in
            (omega (arith, low, both, at), subst (λ n. Contains (keys_of (get_or (one ++ other) n []) corner) key) at (subst (λ keys. Contains (keys_of keys corner) key) (sym (get_or-append-add one other h [])) there))
      ],
      λ (low, there). elim (cases_lt g (length one)) [
        | inl before ↦ (are corner lt key g).1 (inl ((one_is corner lt key g).1 (before, subst (λ keys. Contains (keys_of keys corner) key) (get_or_append_left one other [] g before) there)))
        | inr behind ↦
            let at : g ≡ length one + (g - length one) = omega (arith, behind) in
            let within : g - length one < length other = omega (arith, low, both, behind) in
            let own : Contains (keys_of (get_or other (g - length one) []) corner) key = subst (λ keys. Contains (keys_of keys corner) key) (ap (λ n. get_or (one ++ other) n []) at ∙ get_or-append-add one other (g - length one) []) there in
            (are corner lt key g).1 (inr (g - length one, (other_is corner lt key (g - length one)).1 (within, own), omega (arith, at, long)))
      ],
    )

pub IsIndexOf-none : (a b c d : List Entry) → a ≡ [] → b ≡ [] → c ≡ [] → d ≡ [] → IsIndexOf [] (a ∷ b ∷ c ∷ d ∷ [])
IsIndexOf-none a b c d first second third fourth corner lt key g =
    let none : entries_in (a ∷ b ∷ c ∷ d ∷ []) corner ≡ [] = four (λ _ es. es ≡ []) a b c d first second third fourth corner lt in
    (λ h. let (k, within, _) = subst (λ es. Contains es (entry key g)) none h in absurd (omega (arith, within)), λ (low, _). absurd (omega (arith, low)))

-- an index has no other games than those of its list
pub IsIndexOf-below : (games : List (List (List ℕ))) (index : List (List Entry)) (count : ℕ) → IsIndexOf games index → length games ≤ count → HaveGamesBelow index count
IsIndexOf-below games index count are few corner lt key g there = omega (arith, ((are corner lt key g).0 there).0, few)

-- a list without a game
pub no_game : (games : List (List (List ℕ))) → length games ≡ 0 → [] ≡ games
no_game [] none = refl
no_game (game ∷ games) none = absurd (omega (arith, none))
