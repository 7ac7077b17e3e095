-- What is stored of nodes, with one node more, and told by another function.
use Prim.Native.Nat.{zero}
use Rattle.std.proofs.Common.{◌≡◌, ◌≢◌, ℕ, ◌+◌, ◌<◌, ◌≤◌, suc, ◌∷◌, Some, None, refl, ◌∙◌, ap, subst, arith, inl, inr}
use Rattle.std.proofs.lemmas.Bool.{cases_lt}
use Rattle.std.specs.Prelude.{map}
use Rattle.std.specs.List.{range_with_len}
use Rattle.node_paths.specs.StoredNodes.{AreParts, part_start, stored_parent}

-- two functions that are the same at each number of a range make the same list of it
pub map_same : {X : Type 0} (f g : ℕ → X) (a n : ℕ) → ((k : ℕ) → a ≤ k → k < a + n → f k ≡ g k) →
    map f (range_with_len a n) ≡ map g (range_with_len a n)
map_same f g a zero same = refl
map_same f g a (suc n) same =
    ap (λ y. y ∷ map f (range_with_len (a + 1) n)) (same a (omega arith) (omega arith))
    ∙ ap (λ ys. g a ∷ ys) (map_same f g (a + 1) n (λ k low high. same k (omega arith) (omega arith)))

-- ---- parents

pub stored_parent-zero : (number : ℕ → ℕ) (n : ℕ) → n ≡ 0 → stored_parent number n ≡ None
stored_parent-zero number n e = ap (stored_parent number) e

pub stored_parent-suc : (number : ℕ → ℕ) (n : ℕ) → n ≢ 0 → stored_parent number n ≡ Some (number n)
stored_parent-suc number zero ne = absurd (ne refl)
stored_parent-suc number (suc n) ne = refl

pub stored_parent-same : (f g : ℕ → ℕ) (n : ℕ) → f n ≡ g n → stored_parent f n ≡ stored_parent g n
stored_parent-same f g zero same = refl
stored_parent-same f g (suc n) same = ap (λ i. Some i) same

-- ---- parts of one list

pub part_start-same : (f g : ℕ → ℕ) (n : ℕ) → ((k : ℕ) → k < n → f k ≡ g k) → part_start f n ≡ part_start g n
part_start-same f g zero same = refl
part_start-same f g (suc n) same = same n (omega arith)

module _ {end : ℕ → ℕ} {count whole : ℕ} (parts : AreParts end count whole) where
  pub part_start-within : (n : ℕ) → n ≤ count → part_start end n ≤ whole
  part_start-within zero h = omega arith
  part_start-within (suc n) h = parts.ends n (omega arith)

  pub AreParts-same : (other : ℕ → ℕ) (as_many : ℕ) → as_many ≡ count → ((n : ℕ) → other n ≡ end n) →
      AreParts other as_many whole
  AreParts-same other as_many counted same = record {
    starts = λ n h.
        omega (arith, counted, part_start-same other end n (λ k low. same k), same n, parts.starts n (omega (arith, counted)));
    ends = λ n h. omega (arith, same n, parts.ends n (omega (arith, counted)));
  }

  -- one part more, which ends where the list ends
  pub AreParts-more : (longer : ℕ → ℕ) (more all : ℕ) →
      more ≡ count + 1 →
      whole ≤ all →
      ((n : ℕ) → n < count → longer n ≡ end n) →
      longer count ≡ all →
      AreParts longer more all
  AreParts-more longer more all counted within same last = record {
    starts = λ n h. elim (cases_lt n count) [
      | inl l ↦
          omega (arith, part_start-same longer end n (λ k low. same k (omega arith)), same n l, parts.starts n l)
      | inr l ↦
          let here : count ≡ n = omega (arith, counted) in
          subst (λ (i : ℕ). part_start longer i ≤ longer i) here
          (omega (arith, part_start-same longer end count same, part_start-within count (omega arith), within, last))
    ];
    ends = λ n h. elim (cases_lt n count) [
      | inl l ↦ omega (arith, same n l, parts.ends n l, within)
      | inr l ↦
          let here : count ≡ n = omega (arith, counted) in
          subst (λ (i : ℕ). longer i ≤ all) here (omega (arith, last))
    ];
  }
