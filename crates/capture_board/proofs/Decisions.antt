-- Claims that are decided: each of them holds, or it doesn't.
use Rattle.std.proofs.Common.{◌≡◌, ℕ, zero, suc, ◌<◌, ◌⊎◌, ◌↔◌, inl, inr, subst, arith}
use Rattle.std.proofs.lemmas.Bool.{cases_eq}

-- the claim holds, or it doesn't
abbrev pub IsDecided : Type 0 → Type 0
IsDecided P = P ⊎ (¬ P)

pub decided_same : (P Q : Type 0) → P ↔ Q → IsDecided P → IsDecided Q
decided_same P Q same (inl p) = inl (same.0 p)
decided_same P Q same (inr never) = inr (λ q. never (same.1 q))

pub decided_not : (P : Type 0) → IsDecided P → IsDecided (¬ P)
decided_not P (inl p) = inr (λ never. never p)
decided_not P (inr never) = inl never

pub decided_or : (P Q : Type 0) → IsDecided P → IsDecided Q → IsDecided (P ⊎ Q)
decided_or P Q (inl p) d = inl (inl p)
decided_or P Q (inr never) (inl q) = inl (inr q)
decided_or P Q (inr never) (inr neither) = inr (λ h. elim h [ inl p ↦ never p | inr q ↦ neither q ])

pub decided_and : (P Q : Type 0) → IsDecided P → IsDecided Q → IsDecided (P × Q)
decided_and P Q (inl p) (inl q) = inl (p, q)
decided_and P Q (inl p) (inr never) = inr (λ h. never h.1)
decided_and P Q (inr never) d = inr (λ h. never h.0)

-- some number below a bound has P
abbrev pub SomeBelow : (ℕ → Type 0) → ℕ → Type 0
SomeBelow P n = (k : ℕ) × (k < n) × P k

none_more : (P : ℕ → Type 0) (n : ℕ) → ¬ P n → ¬ SomeBelow P n → ¬ SomeBelow P (suc n)
none_more P n here before h =
    elim (cases_eq h.0 n) [
      | inl e ↦ here (subst P e h.2)
      | inr other ↦ before (h.0, omega (arith, h.1), h.2)
    ]

-- whether some number below a bound has P is decided where it is for each of them
pub decided_below : (P : ℕ → Type 0) (n : ℕ) → ((k : ℕ) → k < n → IsDecided (P k)) → IsDecided (SomeBelow P n)
decided_below P zero each = inr (λ h. absurd (omega (arith, h.1)))
decided_below P (suc n) each =
    elim (each n (omega arith)) [
      | inl here ↦ inl (n, omega arith, here)
      | inr not_here ↦
          elim (decided_below P n (λ k lt. each k (omega arith))) [
            | inl some ↦ inl (some.0, omega (arith, some.1), some.2)
            | inr none ↦ inr (none_more P n not_here none)
          ]
    ]

-- ---- steps over finitely many numbers

-- Steps lead from p to q and pass only numbers below k on the way: they don't pass k - 1, or they
-- lead to it, and on from it.
abbrev pub Leads : (ℕ → ℕ → Type 0) → ℕ → ℕ → ℕ → Type 0
Leads Step zero p q = Step p q
Leads Step (suc k) p q = Leads Step k p q ⊎ (Leads Step k p k × Leads Step k k q)

module _ (Step : ℕ → ℕ → Type 0) where
  -- whether steps lead from one number to another is decided where each step is
  pub leads_decided : ((p q : ℕ) → IsDecided (Step p q)) → (k p q : ℕ) → IsDecided (Leads Step k p q)
  leads_decided each zero p q = each p q
  leads_decided each (suc k) p q =
      decided_or (Leads Step k p q) (Leads Step k p k × Leads Step k k q) (leads_decided each k p q)
      (decided_and (Leads Step k p k) (Leads Step k k q) (leads_decided each k p k) (leads_decided each k k q))

  pub leads_from_step : (k p q : ℕ) → Step p q → Leads Step k p q
  leads_from_step zero p q step = step
  leads_from_step (suc k) p q step = inl (leads_from_step k p q step)

  to_last : (k p : ℕ) → Leads Step (suc k) p k → Leads Step k p k
  to_last k p (inl h) = h
  to_last k p (inr h) = h.0

  from_last : (k q : ℕ) → Leads Step (suc k) k q → Leads Step k k q
  from_last k q (inl h) = h
  from_last k q (inr h) = h.1

  over_last : (k m p q : ℕ) → m ≡ k → Leads Step (suc k) p m → Leads Step (suc k) m q → Leads Step (suc k) p q
  over_last k m p q e to from =
      inr (
        to_last k p (subst (λ (i : ℕ). Leads Step (suc k) p i) e to),
        from_last k q (subst (λ (i : ℕ). Leads Step (suc k) i q) e from),
      )

  -- where a number below k is passed, both parts may pass it
  over_lower : (k m p q : ℕ) → (Leads Step k p m → Leads Step k m q → Leads Step k p q)
      → (Leads Step k p m → Leads Step k m k → Leads Step k p k)
      → (Leads Step k k m → Leads Step k m q → Leads Step k k q)
      → Leads Step (suc k) p m → Leads Step (suc k) m q → Leads Step (suc k) p q
  over_lower k m p q here left right (inl to) (inl from) = inl (here to from)
  over_lower k m p q here left right (inl to) (inr from) = inr (left to from.0, from.1)
  over_lower k m p q here left right (inr to) (inl from) = inr (to.0, right to.1 from)
  over_lower k m p q here left right (inr to) (inr from) = inr (to.0, from.1)

  -- steps lead on from each number below k to which they lead
  pub leads_on : (k m p q : ℕ) → m < k → Leads Step k p m → Leads Step k m q → Leads Step k p q
  leads_on zero m p q lt to from = absurd (omega arith)
  leads_on (suc k) m p q lt to from =
      elim (cases_eq m k) [
        | inl e ↦ over_last k m p q e to from
        | inr other ↦
            let below : m < k = omega arith in
            over_lower k m p q (leads_on k m p q below) (leads_on k m p k below) (leads_on k m k q below) to from
      ]

  -- what holds of each step and goes on from one to the next holds where steps lead
  pub leads_keeps : (W : ℕ → ℕ → Type 0) → ((p q : ℕ) → Step p q → W p q)
      → ((p m q : ℕ) → W p m → W m q → W p q) → (k p q : ℕ) → Leads Step k p q → W p q
  leads_keeps W one on zero p q step = one p q step
  leads_keeps W one on (suc k) p q (inl h) = leads_keeps W one on k p q h
  leads_keeps W one on (suc k) p q (inr h) =
      on p k q (leads_keeps W one on k p k h.0) (leads_keeps W one on k k q h.1)
