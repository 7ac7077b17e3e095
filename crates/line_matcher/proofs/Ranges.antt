-- Tests of some number below a bound.
use Rattle.std.proofs.Common.{◌≡◌, ℕ, ◌+◌, ◌<◌, ◌≤◌, inl, inr, suc, zero, Bool, true, sym, ap, ◌∙◌, arith}
use Rattle.std.specs.Bool.{Decides}
use Rattle.std.specs.List.{list_any, range_with_len}
use Rattle.std.proofs.lemmas.Bool.{cases_eq, or_cases, or_left, or_right, false≢true}

any_from : (p : ℕ → Bool) (a n : ℕ) → Decides (list_any p (range_with_len a n)) ((k : ℕ) × (a ≤ k) × (k < a + n) × (p k ≡ true))
any_from p a zero = (λ e. absurd (false≢true e), λ (k, low, high, t). absurd (omega arith))
any_from p a (suc n) =
    let rest = any_from p (a + 1) n in (
      λ e. elim (or_cases (p a) (list_any p (range_with_len (a + 1) n)) e) [
        | inl here ↦ (a, omega arith, omega arith, here)
        | inr later ↦ let k = rest.0 later in (k.0, omega arith, omega arith, k.3)
      ],
      λ (k, low, high, t). elim (cases_eq k a) [
        | inl here ↦ or_left (p a) (list_any p (range_with_len (a + 1) n)) (sym (ap p here) ∙ t)
        | inr later ↦ or_right (p a) (list_any p (range_with_len (a + 1) n)) (rest.1 (k, omega arith, omega arith, t))
      ],
    )

-- some number below n passes
pub any_below : (p : ℕ → Bool) (n : ℕ) → Decides (list_any p (range_with_len 0 n)) ((k : ℕ) × (k < n) × (p k ≡ true))
any_below p n =
    let from = any_from p 0 n in
    (λ e. let k = from.0 e in (k.0, omega arith, k.3), λ (k, lt, t). from.1 (k, omega arith, omega arith, t))
