-- One value written at each of some places of a list.
use Rattle.std.proofs.Common.{◌≡◌, ◌≢◌, ℕ, ◌+◌, ◌<◌, ◌≤◌, ◌⊎◌, inl, inr, List, length, get_or, set, refl, ◌∙◌, arith, below_more}
use Rattle.std.specs.Prelude.{Contains}
use Rattle.std.proofs.lemmas.List.{get_or-set_same, get_or-set_other, get_or_default}
use Rattle.std.proofs.lemmas.List.Elements.{Contains-get_or}
use Rattle.std.proofs.lemmas.Bool.{cases_eq}

-- after is before with the value written at the first count places
pub record IsWritten {X : Type 0} (value : X) (places : List ℕ) (before after : List X) (count : ℕ) : Type 0 where
  pub written : (k : ℕ) → k < count → get_or after (get_or places k 0) value ≡ value
  pub kept : (q : ℕ) → ¬ Contains places q → get_or after q value ≡ get_or before q value

module _ {X : Type 0} (value : X) (places : List ℕ) (before : List X) where
  pub IsWritten-none : IsWritten value places before before 0
  IsWritten-none = record { written = λ k lt. absurd (omega arith); kept = λ q no. refl }

  module _ (after : List X) (n : ℕ) (so_far : IsWritten value places before after n) where
    written_at : (p r : ℕ) → p < length after → (r ≡ p) ⊎ (r ≢ p) → get_or after r value ≡ value → get_or (set after p value) r value ≡ value
    written_at p r lt (inl same) e = rw same (get_or-set_same after p value value lt)
    written_at p r lt (inr other) e = get_or-set_other after p r value value other ∙ e

    pub IsWritten-more : n < length places → get_or places n 0 < length after → IsWritten value places before (set after (get_or places n 0) value) (n + 1)
    IsWritten-more lt fits = record {
      written = below_more _ _ (λ k below. written_at (get_or places n 0) (get_or places k 0) fits (cases_eq (get_or places k 0) (get_or places n 0)) (so_far.written k below)) (get_or-set_same after (get_or places n 0) value value fits);
      kept = λ q no. get_or-set_other after (get_or places n 0) q value value (λ same. no (rw same (Contains-get_or places n 0 lt))) ∙ so_far.kept q no;
    }

    -- the value stands at each of the places
    pub IsWritten-all : length places ≤ n → (q : ℕ) → Contains places q → get_or after q value ≡ value
    IsWritten-all all q m =
        let here : get_or places m.0 0 ≡ q = get_or_default places m.0 0 q m.1 ∙ m.2 in
        rw (← here) (so_far.written m.0 (omega (arith, m.1)))
