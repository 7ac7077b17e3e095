-- The nodes where a point begins to have a cell are those with the cell whose parent has another one.
use Prim.Native.Nat.{zero}
use Rattle.std.proofs.Common.{◌≡◌, ◌≢◌, ℕ, ◌+◌, ◌-◌, ◌<◌, ◌≤◌, ◌↔◌, suc, Bool, true, false, cond, List, [], ◌∷◌, get_or, Option, Some, None, refl, sym, ◌∙◌, ap, subst, arith, inl, inr}
use Rattle.std.proofs.lemmas.Bool.{cases_Bool, cases_lt, false≢true, not-true}
use Rattle.std.proofs.lemmas.List.Elements.{Contains-append_cases, Contains-append_right}
use Rattle.std.specs.List.{range_with_len}
use Rattle.std.specs.Option.{option_map_or}
use Rattle.std.specs.Prelude.{Contains, filter, not}
use Rattle.kb_geometry.specs.declared.stone.Cell.{Cell}
use Rattle.capture_board.proofs.Cells.{other_cell, same_cell}
use Rattle.capture_index.specs.NodePositions.{HadAnother, NodePositions, cell_begins_at, cell_in, count_in, is_cell, nodes_where, parent_in, was_cell}
use Rattle.capture_index.proofs.NodesFrom.{begins-not, is_cell-test}

is_cell-same : (a b : Cell) → is_cell a b ≡ true → a ≡ b
is_cell-same a b e = same_cell a b (is_cell-test a b ∙ e)

is_cell-other : (a b : Cell) → is_cell a b ≡ false → a ≢ b
is_cell-other a b e = other_cell a b (is_cell-test a b ∙ e)

is_cell-true : (a b : Cell) → a ≡ b → is_cell a b ≡ true
is_cell-true a b e = elim (cases_Bool (is_cell a b)) [ inl t ↦ t | inr f ↦ absurd (is_cell-other a b f e) ]

is_cell-false : (a b : Cell) → a ≢ b → is_cell a b ≡ false
is_cell-false a b ne = elim (cases_Bool (is_cell a b)) [ inl t ↦ absurd (ne (is_cell-same a b t)) | inr f ↦ f ]

module _ (seen : NodePositions) (p : ℕ) (cell : Cell) where
  another-told : (o : Option ℕ) → not (option_map_or (λ (m : ℕ). is_cell (cell_in seen p m) cell) o false) ≡ true ↔ HadAnother seen p cell o
  another-told None = (λ e. tt, λ h. refl)
  another-told (Some m) = (
    λ e. is_cell-other (cell_in seen p m) cell (not-true (is_cell (cell_in seen p m) cell) e),
    λ ne. ap not (is_cell-false (cell_in seen p m) cell ne),
  )

  begins-told : (n : ℕ) → cell_begins_at seen p cell n ≡ true ↔ ((cell_in seen p n ≡ cell) × HadAnother seen p cell (parent_in seen n))
  begins-told n = (
    λ e. elim (cases_Bool (is_cell (cell_in seen p n) cell)) [
      | inl t ↦ (is_cell-same (cell_in seen p n) cell t, (another-told (parent_in seen n)).0 (sym (ap (λ (b : Bool). cond b (not (was_cell seen p cell n)) false) t) ∙ e))
      | inr f ↦ absurd (false≢true (sym (begins-not seen p cell n f) ∙ e))
    ],
    λ (same, other). ap (λ (b : Bool). cond b (not (was_cell seen p cell n)) false) (is_cell-true (cell_in seen p n) cell same) ∙ (another-told (parent_in seen n)).1 other,
  )

head-is : (y x : ℕ) → Contains (y ∷ []) x → y ≡ x
head-is y x (k, lt, is) = let zero_is : k ≡ 0 = omega (arith, lt) in sym (ap (λ (j : ℕ). get_or (y ∷ []) j x) zero_is) ∙ is

range-told : (f : ℕ → Bool) (k from n : ℕ) → Contains (filter f (range_with_len from k)) n ↔ ((from ≤ n) × (n < from + k) × (f n ≡ true))
range-told f zero from n = (λ (i, lt, is). absurd (omega (arith, lt)), λ (low, high, is). absurd (omega arith))
range-told f (suc k) from n =
    let rest = range-told f k (from + 1) n in
    let tail = filter f (range_with_len (from + 1) k) in
    let whole : (b : Bool) → f from ≡ b → filter f (range_with_len from (suc k)) ≡ cond b (from ∷ tail) tail = λ b e. ap (λ (c : Bool). cond c (from ∷ tail) tail) e in
    elim (cases_Bool (f from)) [
      | inl t ↦ (
        λ has. elim (Contains-append_cases (from ∷ []) tail n (subst (λ (xs : List ℕ). Contains xs n) (whole true t) has)) [
          | inl first ↦ let e = head-is from n first in (omega (arith, e), omega (arith, e), ap f (sym e) ∙ t)
          | inr later ↦ let s = rest.0 later in (omega (arith, s.0), omega (arith, s.1), s.2)
        ],
        λ (low, high, is). subst (λ (xs : List ℕ). Contains xs n) (sym (whole true t)) (elim (cases_lt from n) [
          | inl less ↦ Contains-append_right (from ∷ []) tail n (rest.1 (omega arith, omega arith, is))
          | inr here ↦ (0, omega arith, omega arith)
        ]),
      )
      | inr t ↦ (
        λ has. let s = rest.0 (subst (λ (xs : List ℕ). Contains xs n) (whole false t) has) in (omega (arith, s.0), omega (arith, s.1), s.2),
        λ (low, high, is). subst (λ (xs : List ℕ). Contains xs n) (sym (whole false t)) (elim (cases_lt from n) [
          | inl less ↦ rest.1 (omega arith, omega arith, is)
          | inr here ↦ let e : from ≡ n = omega arith in absurd (false≢true (sym t ∙ ap f e ∙ is))
        ]),
      )
    ]

pub nodes-told : (seen : NodePositions) (p : ℕ) (cell : Cell) (n : ℕ) → Contains (nodes_where seen p cell 0) n ↔ ((n < count_in seen) × (cell_in seen p n ≡ cell) × HadAnother seen p cell (parent_in seen n))
nodes-told seen p cell n =
    let range = range-told (cell_begins_at seen p cell) (count_in seen - 0) 0 n in
    let told = begins-told seen p cell n in (
      λ has. let s = range.0 has in (omega (arith, s.1), (told.0 s.2).0, (told.0 s.2).1),
      λ (lt, same, other). range.1 (omega arith, omega arith, told.1 (same, other)),
    )
