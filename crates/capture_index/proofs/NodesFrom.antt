-- The nodes from one on at which a point begins to have a cell.
use Prim.Native.Nat.{zero}
use Rattle.std.proofs.Common.{◌≡◌, ℕ, ◌+◌, ◌-◌, ◌<◌, ◌≤◌, suc, Bool, true, false, cond, [], ◌∷◌, Option, Some, None, refl, ◌∙◌, ap, arith, inl, inr}
use Rattle.std.proofs.lemmas.Bool.{cases_Bool}
use Rattle.std.specs.List.{range_with_len}
use Rattle.std.specs.Option.{option_map_or}
use Rattle.std.specs.Prelude.{filter, not}
use Rattle.kb_geometry.specs.declared.stone.Cell.{Cell}
use Rattle.kb_geometry.specs.declared.stone.Cell.TheVariants.{Empty, Black, White}
use Rattle.kb_geometry.specs.contracts.stone.Cell.{the_type}
use denote.Enum.Bare.{sameb}
use Rattle.capture_index.specs.NodePositions.{NodePositions, cell_begins_at, cell_in, count_in, is_cell, nodes_where, parent_in, was_cell}
use Rattle.capture_index.specs.Seen.{GoesOnTo, StaysTo}

-- the test of two cells
pub is_cell-test : (a b : Cell) → sameb the_type a b ≡ is_cell a b
is_cell-test Empty Empty = refl
is_cell-test Empty Black = refl
is_cell-test Empty White = refl
is_cell-test Black Empty = refl
is_cell-test Black Black = refl
is_cell-test Black White = refl
is_cell-test White Empty = refl
is_cell-test White Black = refl
is_cell-test White White = refl

module _ (seen : NodePositions) (p : ℕ) (cell : Cell) where
  -- ---- whether the point begins to have the cell
  pub begins-not : (n : ℕ) → is_cell (cell_in seen p n) cell ≡ false → cell_begins_at seen p cell n ≡ false
  begins-not n e = ap (λ (b : Bool). cond b (not (was_cell seen p cell n)) false) e

  pub begins-below : (n m : ℕ) → is_cell (cell_in seen p n) cell ≡ true → parent_in seen n ≡ Some m → cell_begins_at seen p cell n ≡ not (is_cell (cell_in seen p m) cell)
  begins-below n m e f =
      ap (λ (b : Bool). cond b (not (was_cell seen p cell n)) false) e
      ∙ ap (λ (o : Option ℕ). not (option_map_or (λ (k : ℕ). is_cell (cell_in seen p k) cell) o false)) f

  pub begins-root : (n : ℕ) → is_cell (cell_in seen p n) cell ≡ true → parent_in seen n ≡ None → cell_begins_at seen p cell n ≡ true
  begins-root n e f =
      ap (λ (b : Bool). cond b (not (was_cell seen p cell n)) false) e
      ∙ ap (λ (o : Option ℕ). not (option_map_or (λ (k : ℕ). is_cell (cell_in seen p k) cell) o false)) f

  stays-not : (n m : ℕ) → parent_in seen n ≡ Some m → is_cell (cell_in seen p m) cell ≡ true → cell_begins_at seen p cell n ≡ false
  stays-not n m f was = elim (cases_Bool (is_cell (cell_in seen p n) cell)) [
    | inl e ↦ begins-below n m e f ∙ ap not was
    | inr e ↦ begins-not n e
  ]

  -- ---- no node before the next place
  module _ (n : ℕ) (run : ℕ) (stays : StaysTo (cell_in seen p) (count_in seen) n run) where
    pub none-other : is_cell (cell_in seen p n) cell ≡ false → (k : ℕ) → n < k → k < run → cell_begins_at seen p cell k ≡ false
    none-other e k from to = begins-not k (ap (λ (c : Cell). is_cell c cell) (stays.stays k (omega arith) to) ∙ e)

    pub none-same : (branch : ℕ) → GoesOnTo (parent_in seen) (count_in seen) n branch → is_cell (cell_in seen p n) cell ≡ true → (k : ℕ) → n < k → k < run → k < branch → cell_begins_at seen p cell k ≡ false
    none-same branch goes e k from to before =
        stays-not k (k - 1) (goes.goes_on k from before) (ap (λ (c : Cell). is_cell c cell) (stays.stays (k - 1) (omega arith) (omega arith)) ∙ e)

  -- ---- the list
  step : (n : ℕ) → n < count_in seen → nodes_where seen p cell n ≡ cond (cell_begins_at seen p cell n) (n ∷ nodes_where seen p cell (n + 1)) (nodes_where seen p cell (n + 1))
  step n lt =
      let more : count_in seen - n ≡ suc (count_in seen - (n + 1)) = omega arith in
      ap (λ (k : ℕ). filter (cell_begins_at seen p cell) (range_with_len n k)) more

  pub nodes-here : (n : ℕ) → n < count_in seen → cell_begins_at seen p cell n ≡ true → nodes_where seen p cell n ≡ n ∷ nodes_where seen p cell (n + 1)
  nodes-here n lt e = step n lt ∙ ap (λ (b : Bool). cond b (n ∷ nodes_where seen p cell (n + 1)) (nodes_where seen p cell (n + 1))) e

  nodes-pass : (n : ℕ) → n < count_in seen → cell_begins_at seen p cell n ≡ false → nodes_where seen p cell n ≡ nodes_where seen p cell (n + 1)
  nodes-pass n lt e = step n lt ∙ ap (λ (b : Bool). cond b (n ∷ nodes_where seen p cell (n + 1)) (nodes_where seen p cell (n + 1))) e

  nodes-skip : (n more : ℕ) → n + more ≤ count_in seen → ((k : ℕ) → n ≤ k → k < n + more → cell_begins_at seen p cell k ≡ false) → nodes_where seen p cell n ≡ nodes_where seen p cell (n + more)
  nodes-skip n zero le none = ap (nodes_where seen p cell) (omega arith)
  nodes-skip n (suc more) le none =
      nodes-pass n (omega (arith, le)) (none n (omega arith) (omega arith))
      ∙ nodes-skip (n + 1) more (omega (arith, le)) (λ k from to. none k (omega arith) (omega (arith, to)))
      ∙ ap (nodes_where seen p cell) (omega arith)

  pub nodes-further : (n next : ℕ) → n < next → next ≤ count_in seen → cell_begins_at seen p cell n ≡ false → ((k : ℕ) → n < k → k < next → cell_begins_at seen p cell k ≡ false) → nodes_where seen p cell n ≡ nodes_where seen p cell next
  nodes-further n next lt le here none =
      nodes-pass n (omega arith) here
      ∙ nodes-skip (n + 1) (next - (n + 1)) (omega arith) (λ k from to. none k (omega arith) (omega arith))
      ∙ ap (nodes_where seen p cell) (omega arith)

  pub nodes-past : (n : ℕ) → count_in seen ≤ n → nodes_where seen p cell n ≡ []
  nodes-past n le =
      let none : count_in seen - n ≡ 0 = omega arith in
      ap (λ (k : ℕ). filter (cell_begins_at seen p cell) (range_with_len n k)) none
