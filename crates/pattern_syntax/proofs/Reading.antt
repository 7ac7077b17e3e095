-- Reading a text byte by byte ends at its first fault, or with the pattern that it spells.
use Rattle.std.proofs.Common.{◌≡◌, ◌⊎◌, inl, inr, ℕ, zero, suc, ◌+◌, ◌*◌, ◌<◌, List, [], ◌∷◌, ◌++◌, length, get_or, sym, ◌∙◌, subst, arith}
use Rattle.std.proofs.lemmas.Bool.{cases_eq, cases_lt}
use Rattle.pattern_images.specs.declared.cell.PatternCell.{PatternCell}
use Rattle.pattern_images.specs.declared.cell.PatternCell.TheVariants as cell
use Rattle.pattern_images.specs.Grid.{Grid}
use Rattle.pattern_syntax.specs.Text.{slash, cell_byte, SpellsPattern}
use Rattle.pattern_syntax.specs.Faults.{HasPatternFault, IsFirstPatternFault}
use Rattle.pattern_syntax.specs.Faults.HasPatternFault.{unknown_byte}
use Rattle.pattern_syntax.specs.Reading.{HasRows}
use Rattle.pattern_syntax.proofs.Bytes.{cell_or_none}
use Rattle.pattern_syntax.proofs.Rows.{EndsRow}
use Rattle.pattern_syntax.proofs.Steps.{start, evened, more-cell, more-row, near, fault-empty, fault-uneven, fault-long, fault-many, clean-cell, clean-end}
use Rattle.pattern_syntax.proofs.TextBytes.{IsLaidOut, pattern_text-laid_out, same_text}
use Rattle.pattern_syntax.proofs.Spelled.{spelled-faultless}

-- At an end of the row that is begun, the row is as it should be, or there is a fault.
pub row_or_fault : (text : List ℕ) (k rows cols width : ℕ) (cells : List PatternCell) → HasRows text k rows cols width cells → EndsRow text k →
    ((0 < width) × HasRows text k rows width width cells) ⊎ HasPatternFault text k
row_or_fault text k rows cols width cells h ends = elim (cases_eq width 0) [
  | inl none ↦ inr (fault-empty text k rows cols width cells h ends none)
  | inr some ↦ elim (cases_eq rows 0) [
    | inl first ↦ inl (omega arith, evened text k rows cols width cells h (inl first))
    | inr more ↦ elim (cases_eq cols width) [
      | inl even ↦ inl (omega arith, evened text k rows cols width cells h (inr even))
      | inr other ↦ inr (fault-uneven text k rows cols width cells h ends (omega arith) other)
    ]
  ]
]

-- the pattern of all rows
abbrev pub whole_grid : ℕ → ℕ → List PatternCell → Grid
whole_grid rows width cells = record { cols = width; rows = rows + 1; cells = cells }

-- at the end of the text, that pattern is the one that the text spells
pub all_rows-spell : (text : List ℕ) (rows width : ℕ) (cells : List PatternCell) → HasRows text (length text) rows width width cells → 0 < width →
    SpellsPattern text (whole_grid rows width cells)
all_rows-spell text rows width cells h some =
    let grid : Grid = whole_grid rows width cells in
    let laid_out : IsLaidOut text grid = record {
      size = omega (arith, h.place);
      cells = λ x y column row. elim (cases_lt y rows) [
        | inl lt ↦ h.closed x y column lt
        | inr ge ↦ subst (λ n. get_or text (n * (width + 1) + x) 0 ≡ cell_byte (get_or cells (n * width + x) cell.Any)) (let e : rows ≡ y = omega arith in e) (h.begun x column)
      ];
      parted = λ y row. h.parted y (omega arith);
    } in
    record {
      cols = (omega arith, h.narrow);
      rows = (omega arith, omega (arith, h.few));
      count = h.count ∙ omega arith;
      same = same_text text _ grid laid_out (pattern_text-laid_out grid (omega arith));
    }

-- what is found of a text
abbrev pub SpellsOrFails : List ℕ → Type 0
SpellsOrFails text = ((grid : Grid) × SpellsPattern text grid) ⊎ ((k : ℕ) × IsFirstPatternFault text k × (k < 52 * 53))

-- the bytes before this one have no fault
abbrev pub IsFaultlessTo : List ℕ → ℕ → Type 0
IsFaultlessTo text k = (j : ℕ) → j < k → ¬ HasPatternFault text j

pub faultless-more : (text : List ℕ) (k : ℕ) → IsFaultlessTo text k → ¬ HasPatternFault text k → IsFaultlessTo text (k + 1)
faultless-more text k before here j lt = elim (cases_eq j k) [ inl e ↦ subst (λ n. ¬ HasPatternFault text n) (sym e) here | inr other ↦ before j (omega arith) ]

spells_or_fails_from : (n : ℕ) (text : List ℕ) (k rows cols width : ℕ) (cells : List PatternCell) → k + n ≡ length text →
    HasRows text k rows cols width cells → IsFaultlessTo text k → SpellsOrFails text
spells_or_fails_from zero text k rows cols width cells all h before =
    let end : k ≡ length text = omega arith in
    elim (row_or_fault text k rows cols width cells h (inl end)) [
      | inl row ↦ inl (whole_grid rows width cells, all_rows-spell text rows width cells (subst (λ n. HasRows text n rows width width cells) end row.1) row.0)
      | inr fault ↦ inr (k, record { here = fault; none_before = before }, near text k rows cols width cells h)
    ]
spells_or_fails_from (suc n) text k rows cols width cells all h before =
    let lt : k < length text = omega arith in
    let fails : HasPatternFault text k → SpellsOrFails text = λ fault. inr (k, record { here = fault; none_before = before }, near text k rows cols width cells h) in
    elim (cases_eq (get_or text k 0) slash) [
      | inl is ↦ elim (row_or_fault text k rows cols width cells h (inr (lt, is))) [
        | inr fault ↦ fails fault
        | inl row ↦ elim (cases_eq (rows + 1) 52) [
          | inl last ↦ fails (fault-many text k rows cols width cells h (lt, is) last)
          | inr more ↦
              let few : rows + 1 < 52 = omega (arith, h.few) in
              spells_or_fails_from n text (k + 1) (rows + 1) width 0 cells (omega arith) (more-row text k rows width cells row.1 (lt, is) few)
              (faultless-more text k before (clean-end text k rows width cells row.1 (inr (lt, is)) row.0 (λ there. few)))
        ]
      ]
      | inr other ↦ elim (cell_or_none (get_or text k 0)) [
        | inr none ↦ fails (unknown_byte lt (λ known. elim known [ inl is ↦ other is | inr a_cell ↦ none a_cell.0 a_cell.1 ]))
        | inl a_cell ↦ elim (cases_lt width 52) [
          | inl room ↦
              spells_or_fails_from n text (k + 1) rows cols (width + 1) (cells ++ a_cell.0 ∷ []) (omega arith) (more-cell text k rows cols width cells h a_cell.0 lt (sym a_cell.1) room)
              (faultless-more text k before (clean-cell text k rows cols width cells h a_cell.0 lt (sym a_cell.1) room))
          | inr full ↦ fails (fault-long text k rows cols width cells h (λ ends. elim ends [ inl e ↦ omega arith | inr there ↦ other there.1 ]) (omega (arith, h.short)))
        ]
      ]
    ]

pub spells_or_fails : (text : List ℕ) → SpellsOrFails text
spells_or_fails text = spells_or_fails_from (length text) text 0 0 0 0 [] (omega arith) (start text) (λ j lt. absurd (omega arith))

-- ---- laws

pub first_fault-one : (text : List ℕ) (j k : ℕ) → IsFirstPatternFault text j → IsFirstPatternFault text k → j ≡ k
first_fault-one text j k one other = elim (cases_lt j k) [
  | inl lt ↦ absurd (other.none_before j lt one.here)
  | inr ge ↦ elim (cases_lt k j) [ inl lt ↦ absurd (one.none_before k lt other.here) | inr le ↦ omega arith ]
]

pub first_fault-near : (text : List ℕ) (k : ℕ) → IsFirstPatternFault text k → k < 52 * 53
first_fault-near text k first = elim (spells_or_fails text) [
  | inl spelled ↦ absurd (spelled-faultless text spelled.0 spelled.1 k first.here)
  | inr found ↦ subst (λ n. n < 52 * 53) (first_fault-one text found.0 k found.1 first) found.2
]

pub faultless-spells : (text : List ℕ) → ((k : ℕ) → ¬ HasPatternFault text k) → (grid : Grid) × SpellsPattern text grid
faultless-spells text none = elim (spells_or_fails text) [ inl spelled ↦ spelled | inr found ↦ absurd (none found.0 found.1.here) ]
