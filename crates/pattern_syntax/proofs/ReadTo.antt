-- What one more byte does to what was read, in the words of the reader's functions.
use Rattle.std.proofs.Common.{◌≡◌, ◌≢◌, ◌⊎◌, inl, inr, ℕ, ◌+◌, ◌<◌, ◌≤◌, List, [], ◌∷◌, ◌++◌, Some, Err, Result, length, get_or, sym, ap, ◌∙◌, subst, arith}
use Rattle.kb_geometry.specs.declared.shape.Shape.{Shape}
use Rattle.kb_geometry.specs.Board.{cols_of, rows_of}
use Rattle.pattern_images.specs.declared.cell.PatternCell.{PatternCell}
use Rattle.pattern_images.specs.declared.pattern.Pattern.{Pattern}
use Rattle.pattern_images.specs.Grid.{Grid}
use Rattle.pattern_syntax.specs.declared.fault.PatternFault.{PatternFault}
use Rattle.pattern_syntax.specs.declared.fault.PatternError.{PatternError}
use Rattle.pattern_syntax.specs.declared.fault.PatternError.TheVariants.{Fault}
use Rattle.pattern_syntax.specs.declared.progress.Progress.{Progress}
use Rattle.pattern_syntax.specs.Text.{cell_byte, SpellsPattern}
use Rattle.pattern_syntax.specs.Faults.{HasSlash, HasPatternFault, IsFirstPatternFault}
use Rattle.pattern_syntax.specs.Reading.{HasRows, IsPatternReadTo, closed_rows, closed_cols}
use Rattle.pattern_syntax.proofs.Rows.{EndsRow, no_slash}
use Rattle.pattern_syntax.proofs.Steps.{evened, more-cell, more-row, fault-empty, fault-uneven, fault-long, clean-cell, clean-end}
use Rattle.pattern_syntax.proofs.Reading.{all_rows-spell, faultless-more}

-- the row that is begun can't be closed, and why
abbrev pub IsUneven : Progress → Type 0
IsUneven progress = (progress.width ≡ 0) ⊎ (52 < progress.width) ⊎ ((0 < closed_rows progress.closed) × (closed_cols progress.closed ≢ progress.width))

-- it can be closed, and what then is the size of all rows
abbrev pub IsSizeOf : Progress → Shape → Type 0
IsSizeOf progress size = (rows_of size ≡ closed_rows progress.closed + 1) × (cols_of size ≡ progress.width) × ((closed_rows progress.closed ≡ 0) ⊎ (closed_cols progress.closed ≡ progress.width))

module _ (text : List ℕ) (k : ℕ) (progress : Progress) (cells : List PatternCell) (read : IsPatternReadTo text k progress cells) where
  pub fault_at_end : EndsRow text k → IsUneven progress → HasPatternFault text k
  fault_at_end ends (inl none) = fault-empty text k _ _ _ cells read.rows ends none
  fault_at_end ends (inr (inl long)) = absurd (omega (arith, read.rows.short))
  fault_at_end ends (inr (inr other)) = fault-uneven text k _ _ _ cells read.rows ends other.0 other.1

  pub fault_of_length : (c : PatternCell) → k < length text → get_or text k 0 ≡ cell_byte c → 52 ≤ progress.width → HasPatternFault text k
  fault_of_length c lt is full =
      fault-long text k _ _ _ cells read.rows (λ ends. elim ends [ inl e ↦ omega arith | inr there ↦ no_slash text k c is there ]) (omega (arith, read.rows.short))

  pub read-cell : (c : PatternCell) → k < length text → get_or text k 0 ≡ cell_byte c → progress.width < 52 →
      IsPatternReadTo text (k + 1) (record { closed = progress.closed; width = progress.width + 1 }) (cells ++ c ∷ [])
  read-cell c lt is room = record {
    rows = more-cell text k _ _ _ cells read.rows c lt is room;
    faultless = faultless-more text k read.faultless (clean-cell text k _ _ _ cells read.rows c lt is room);
  }

  pub read-slash : (size : Shape) → IsSizeOf progress size → HasSlash text k → rows_of size ≢ 52 → IsPatternReadTo text (k + 1) (record { closed = Some size; width = 0 }) cells
  read-slash size is there other =
      let closed : HasRows text k (closed_rows progress.closed) progress.width progress.width cells = evened text k _ _ _ cells read.rows is.2 in
      let few : closed_rows progress.closed + 1 < 52 = omega (arith, is.0, read.rows.few) in
      let some : 0 < progress.width = omega (arith, is.1, size.in_range.0) in
      record {
        rows =
            subst (λ n. HasRows text (k + 1) n (cols_of size) 0 cells) (sym is.0)
            (subst (λ n. HasRows text (k + 1) (closed_rows progress.closed + 1) n 0 cells) (sym is.1) (more-row text k _ _ cells closed there few));
        faultless = faultless-more text k read.faultless (clean-end text k _ _ cells closed (inr there) some (λ _. few));
      }

  pub first_fault : HasPatternFault text k → IsFirstPatternFault text k
  first_fault fault = record { here = fault; none_before = read.faultless }

  pub spells-size : (size : Shape) → IsSizeOf progress size → k ≡ length text → SpellsPattern text (record { cols = cols_of size; rows = rows_of size; cells = cells })
  spells-size size is end =
      let closed : HasRows text k (closed_rows progress.closed) progress.width progress.width cells = evened text k _ _ _ cells read.rows is.2 in
      let some : 0 < progress.width = omega (arith, is.1, size.in_range.0) in
      subst (λ n. SpellsPattern text (record { cols = cols_of size; rows = n; cells = cells })) (sym is.0)
      (subst (λ n. SpellsPattern text (record { cols = n; rows = closed_rows progress.closed + 1; cells = cells })) (sym is.1)
      (all_rows-spell text _ _ cells (subst (λ n. HasRows text n (closed_rows progress.closed) progress.width progress.width cells) end closed) some))

-- ---- what the reader answers

-- an answer names the fault that was found
pub answered : (text : List ℕ) (k : ℕ) (f : PatternFault) → IsFirstPatternFault text k →
    ◌≡◌ {A = Result Pattern PatternError} (Err (Fault (record { column = k }))) (Err (Fault f)) → IsFirstPatternFault text f.column
answered text k f first is = let same : k ≡ f.column = cc in subst (IsFirstPatternFault text) same first

-- and the pattern has the size and the cells that were read
pub spells-made : (text : List ℕ) (grid : Grid) (cols rows : ℕ) (size : Shape) (cells : List PatternCell) → SpellsPattern text (record { cols = cols_of size; rows = rows_of size; cells = cells }) →
    cols ≡ cols_of size → rows ≡ rows_of size → grid ≡ record { cols = cols; rows = rows; cells = cells } → SpellsPattern text grid
spells-made text grid cols rows size cells spells same_cols same_rows made =
    subst (λ (g : Grid). SpellsPattern text g)
    (sym (made ∙ ap (λ n. record { cols = n; rows = rows; cells = cells }) same_cols ∙ ap (λ n. record { cols = cols_of size; rows = n; cells = cells }) same_rows))
    spells
