-- The rows of a text by where its `/` stand, and what a text whose first bytes are rows tells of them.
use Rattle.std.proofs.Common.{◌≡◌, ◌⊎◌, inl, inr, ℕ, zero, suc, ◌+◌, ◌-◌, ◌*◌, ◌<◌, ◌≤◌, List, length, get_or, refl, sym, ap, ◌∙◌, subst, arith}
use Rattle.std.proofs.lemmas.Bool.{cases_eq, cases_lt}
use Rattle.std.proofs.lemmas.Nat.{mul-add-lt}
use Rattle.pattern_images.specs.declared.cell.PatternCell.{PatternCell}
use Rattle.pattern_images.specs.declared.cell.PatternCell.TheVariants as cell
use Rattle.pattern_syntax.specs.Text.{slash, cell_byte}
use Rattle.pattern_syntax.specs.Faults.{HasSlash, IsRow}
use Rattle.pattern_syntax.specs.Reading.{HasRows}
use Rattle.pattern_syntax.proofs.Bytes.{cell_byte-ne-slash}

-- a row may begin at an offset, and one ends there
abbrev pub BeginsRow : List ℕ → ℕ → Type 0
BeginsRow text k = (k ≡ 0) ⊎ ((before : ℕ) × (before + 1 ≡ k) × HasSlash text before)

abbrev pub EndsRow : List ℕ → ℕ → Type 0
EndsRow text k = (k ≡ length text) ⊎ HasSlash text k

-- no `/` stands from one offset up to another
abbrev pub HasNoSlash : List ℕ → ℕ → ℕ → Type 0
HasNoSlash text from to = (k : ℕ) → from ≤ k → k < to → ¬ HasSlash text k

-- a byte of a cell is no `/`
pub no_slash : (text : List ℕ) (k : ℕ) (c : PatternCell) → get_or text k 0 ≡ cell_byte c → ¬ HasSlash text k
no_slash text k c is there = cell_byte-ne-slash c (sym is ∙ there.1)

pub ends-within : (text : List ℕ) (k : ℕ) → EndsRow text k → k ≤ length text
ends-within text k (inl e) = omega arith
ends-within text k (inr there) = omega arith

-- a row does not go on behind an offset at which one ends
pub ends-last : (text : List ℕ) (k from to : ℕ) → IsRow text from to → EndsRow text k → from ≤ k → to ≤ k
ends-last text k from to row (inl e) le = let w : to ≤ length text = ends-within text to row.ends in omega arith
ends-last text k from to row (inr there) le = elim (cases_lt k to) [ inl lt ↦ absurd (row.whole k le lt there) | inr ge ↦ ge ]

-- two rows that begin at one offset are one
pub same_row : (text : List ℕ) (from a b : ℕ) → IsRow text from a → IsRow text from b → a ≡ b
same_row text from a b one other =
    let le : a ≤ b = ends-last text b from a one other.ends other.ordered in
    let ge : b ≤ a = ends-last text a from b other one.ends one.ordered in
    omega arith

-- Where the row ends in which an offset lies.
pub row_end : (n : ℕ) (text : List ℕ) (k : ℕ) → k + n ≡ length text → (to : ℕ) × (k ≤ to) × HasNoSlash text k to × EndsRow text to
row_end zero text k all = (k, omega arith, (λ j le lt. absurd (omega arith)), inl (omega arith))
row_end (suc n) text k all = elim (cases_eq (get_or text k 0) slash) [
  | inl e ↦ (k, omega arith, (λ j le lt. absurd (omega arith)), inr (omega arith, e))
  | inr ne ↦
      let rest = row_end n text (k + 1) (omega arith) in (
        rest.0,
        omega (arith, rest.1),
        (λ j le lt there. elim (cases_eq j k) [
          | inl e ↦ ne (subst (λ i. get_or text i 0 ≡ slash) e there.1)
          | inr other ↦ rest.2 j (omega arith) lt there
        ]),
        rest.3,
      )
]

-- the row behind the closed ones
pub begins-closed : (text : List ℕ) (cols rows : ℕ) → rows * (cols + 1) ≤ length text → ((y : ℕ) → y < rows → get_or text (y * (cols + 1) + cols) 0 ≡ slash) → BeginsRow text (rows * (cols + 1))
begins-closed text cols zero within parted = inl (omega arith)
begins-closed text cols (suc r) within parted = inr (r * (cols + 1) + cols, omega arith, (omega arith, parted r (omega arith)))

module _ (text : List ℕ) (k rows cols width : ℕ) (cells : List PatternCell) (h : HasRows text k rows cols width cells) where
  pub begins : BeginsRow text (rows * (cols + 1))
  begins = begins-closed text cols rows (omega (arith, h.place, h.within)) h.parted

  -- no `/` stands in the row that is begun
  pub begun-no_slash : HasNoSlash text (rows * (cols + 1)) k
  begun-no_slash j le lt there =
      let x : ℕ = j - rows * (cols + 1) in
      let is : rows * (cols + 1) + x ≡ j = omega arith in
      no_slash text (rows * (cols + 1) + x) _ (h.begun x (omega (arith, h.place))) (subst (HasSlash text) (sym is) there)

  -- the row that is begun goes on to the next end
  pub begun-row : (to : ℕ) → k ≤ to → HasNoSlash text k to → EndsRow text to → IsRow text (rows * (cols + 1)) to
  begun-row to le none ends = record {
    ordered = omega (arith, h.place);
    begins = begins;
    whole = λ j from before. elim (cases_lt j k) [ inl lt ↦ begun-no_slash j from lt | inr ge ↦ none j ge before ];
    ends = ends;
  }

  -- a row in which k lies is the one that is begun
  pub row_from : (from to : ℕ) → IsRow text from to → from ≤ k → k ≤ to → from ≡ rows * (cols + 1)
  row_from from to row le ge =
      let low : ¬ (from < rows * (cols + 1)) = λ lt. elim begins [
        | inl e ↦ omega arith
        | inr before ↦ row.whole before.0 (omega (arith, before.1)) (omega (arith, before.1, h.place)) before.2
      ] in
      let high : ¬ (rows * (cols + 1) < from) = λ lt. elim row.begins [
        | inl e ↦ omega arith
        | inr before ↦ begun-no_slash before.0 (omega (arith, before.1)) (omega (arith, before.1)) before.2
      ] in
      elim (cases_lt from (rows * (cols + 1))) [
        | inl lt ↦ absurd (low lt)
        | inr le' ↦ elim (cases_lt (rows * (cols + 1)) from) [ inl lt ↦ absurd (high lt) | inr ge' ↦ omega arith ]
      ]

  -- the first of the closed rows
  pub first_closed : 0 < rows → IsRow text 0 cols
  first_closed some = record {
    ordered = omega arith;
    begins = inl refl;
    whole = λ j from lt. no_slash text j (get_or cells (0 * cols + j) cell.Any) (ap (λ i. get_or text i 0) (omega arith) ∙ h.closed j 0 lt some);
    ends = inr (omega (arith, h.place, h.within, mul-add-lt 0 (cols + 1) cols rows some (omega arith)), subst (λ i. get_or text i 0 ≡ slash) (omega arith) (h.parted 0 some));
  }
