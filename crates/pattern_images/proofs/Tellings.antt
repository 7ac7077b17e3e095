-- What can be told: a fact holds, or it doesn't. Equations of numbers and cells can be told, and so can a fact of some
-- number below another one.
use Rattle.std.proofs.Common.{◌≡◌, ◌≤◌, ◌<◌, ◌⊎◌, inl, inr, ℕ, zero, suc, Bool, true, false, IsTrue, List, [], ◌∷◌, refl, ap, subst, arith}
use Rattle.std.specs.Bool.{Decides}
use Rattle.std.proofs.lemmas.Bool.{cases_eq, cases_lt}
use Rattle.pattern_images.specs.declared.cell.PatternCell.{PatternCell}
use Rattle.pattern_images.specs.contracts.cell.PatternCell.{the_type}
use Rattle.pattern_images.specs.Grid.{Grid}
use Rattle.pattern_images.proofs.Cells.{Decides-cell}
use Rattle.pattern_images.proofs.Turned.{same_grid}
use denote.Enum.Bare.{sameb}

-- the fact holds, or it doesn't
abbrev pub Told : Type 0 → Type 0
Told P = P ⊎ (P → ⊥)

pub told_both : (P Q : Type 0) → Told P → Told Q → Told (P × Q)
told_both P Q (inl p) (inl q) = inl (p, q)
told_both P Q (inl p) (inr never) = inr (λ h. never h.1)
told_both P Q (inr never) told = inr (λ h. never h.0)

pub told_as : (P Q : Type 0) → (P → Q) → (Q → P) → Told P → Told Q
told_as P Q there back (inl p) = inl (there p)
told_as P Q there back (inr never) = inr (λ q. never (back q))

pub told_le : (m n : ℕ) → Told (m ≤ n)
told_le m n = elim (cases_lt n m) [ inl lt ↦ inr (λ le. omega arith) | inr le ↦ inl le ]

pub told_premise : (b : Bool) (P : Type 0) → Told P → Told (IsTrue b → P)
told_premise true P (inl p) = inl (λ t. p)
told_premise true P (inr never) = inr (λ h. never (h refl))
told_premise false P told = inl (λ t. absurd cc)

-- ---- numbers below another one

-- the least number below n of which a fact holds, or it holds of none
pub least_below : (Q : ℕ → Type 0) → ((k : ℕ) → Told (Q k)) → (n : ℕ) →
    ((k : ℕ) × (k < n) × Q k × ((j : ℕ) → j < k → Q j → ⊥)) ⊎ ((k : ℕ) → k < n → Q k → ⊥)
least_below Q told zero = inr (λ k lt. absurd (omega arith))
least_below Q told (suc n) = elim (least_below Q told n) [
  | inl found ↦ inl (found.0, omega (arith, found.1), found.2, found.3)
  | inr none ↦ elim (told n) [
    | inl here ↦ inl (n, omega arith, here, none)
    | inr not ↦ inr (λ k lt. elim (cases_eq k n) [
      | inl same ↦ subst (λ (i : ℕ). Q i → ⊥) (let back : n ≡ k = omega arith in back) not
      | inr other ↦ none k (omega arith)
    ])
  ]
]

pub told_below : (Q : ℕ → Type 0) → ((k : ℕ) → Told (Q k)) → (n : ℕ) → Told ((k : ℕ) × (k < n) × Q k)
told_below Q told n = elim (least_below Q told n) [
  | inl found ↦ inl (found.0, found.1, found.2)
  | inr none ↦ inr (λ h. none h.0 h.1 h.2)
]

-- ---- rectangles of cells

told_test : (b : Bool) (P : Type 0) → Decides b P → Told P
told_test true P decides = inl (decides.0 refl)
told_test false P decides = inr (λ p. let apart : false ≡ true = decides.1 p in cc)

told_cell : (a b : PatternCell) → Told (a ≡ b)
told_cell a b = told_test (sameb the_type a b) (a ≡ b) (Decides-cell a b)

told_cells : (a b : List PatternCell) → Told (a ≡ b)
told_cells [] [] = inl refl
told_cells [] (y ∷ ys) = inr (λ e. cc)
told_cells (x ∷ xs) [] = inr (λ e. cc)
told_cells (x ∷ xs) (y ∷ ys) = elim (told_cell x y) [
  | inl first ↦ elim (told_cells xs ys) [
    | inl rest ↦ inl (let e : x ∷ xs ≡ y ∷ ys = cc in e)
    | inr other ↦ inr (λ e. other (let rest : xs ≡ ys = cc in rest))
  ]
  | inr other ↦ inr (λ e. other (let first : x ≡ y = cc in first))
]

pub told_grid : (a b : Grid) → Told (a ≡ b)
told_grid a b = elim (cases_eq a.cols b.cols) [
  | inl cols ↦ elim (cases_eq a.rows b.rows) [
    | inl rows ↦ elim (told_cells a.cells b.cells) [
      | inl cells ↦ inl (same_grid a b cols rows cells)
      | inr other ↦ inr (λ e. other (ap (λ (g : Grid). g.cells) e))
    ]
    | inr other ↦ inr (λ e. other (ap (λ (g : Grid). g.rows) e))
  ]
  | inr other ↦ inr (λ e. other (ap (λ (g : Grid). g.cols) e))
]
