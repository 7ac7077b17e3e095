-- Tests of all numbers below a bound.
use Rattle.std.proofs.Common.{◌≡◌, ℕ, ◌+◌, ◌<◌, ◌≤◌, inl, inr, suc, zero, Bool, true, refl, ap, ◌∙◌, arith}
use Rattle.std.specs.Bool.{Decides}
use Rattle.std.specs.List.{list_all, range_with_len}
use Rattle.std.proofs.lemmas.Bool.{cases_eq, and_parts, and_from}

all_from : (p : ℕ → Bool) (a n : ℕ) → Decides (list_all p (range_with_len a n)) ((k : ℕ) → a ≤ k → k < a + n → p k ≡ true)
all_from p a zero = (λ e k low high. absurd (omega arith), λ h. refl)
all_from p a (suc n) =
    let rest = all_from p (a + 1) n in (
      λ e k low high. let parts = and_parts (p a) (list_all p (range_with_len (a + 1) n)) e in
          elim (cases_eq k a) [
            | inl here ↦ ap p here ∙ parts.0
            | inr later ↦ rest.0 parts.1 k (omega arith) (omega arith)
          ],
      λ h. and_from (p a) (list_all p (range_with_len (a + 1) n)) (h a (omega arith) (omega arith)) (rest.1 (λ k low high. h k (omega arith) (omega arith))),
    )

-- all numbers below n pass
pub all_below : (p : ℕ → Bool) (n : ℕ) → Decides (list_all p (range_with_len 0 n)) ((k : ℕ) → k < n → p k ≡ true)
all_below p n =
    let from = all_from p 0 n in
    (λ e k lt. from.0 e k (omega arith) (omega arith), λ h. from.1 (λ k low high. h k (omega arith)))
