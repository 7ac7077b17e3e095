-- A placement holds in a position where its wants are met, behind the number of its upper left point.
use Rattle.std.proofs.Common.{◌≡◌, ◌≢◌, ◌⊎◌, ◌↔◌, ℕ, ◌+◌, ◌*◌, ◌<◌, List, refl, sym, ap, ◌∙◌, arith, subst, inl, inr}
use Rattle.std.specs.Prelude.{All, slice_index_or}
use Rattle.std.proofs.lemmas.Nat.{mul-add-lt}
use Rattle.kb_geometry.specs.declared.shape.Shape.{Shape}
use Rattle.kb_geometry.specs.Board.{cols_of, point_count, rows_of}
use Rattle.kb_geometry.specs.Capture.{Position, cell_at}
use Rattle.pattern_images.specs.declared.cell.PatternCell.{PatternCell}
use Rattle.pattern_images.specs.declared.cell.PatternCell.TheVariants as kind
use Rattle.pattern_images.specs.Grid.{cell_in}
use Rattle.pattern_images.specs.Holds.{Allows, Holds, number_under}
use Rattle.pattern_images.specs.ImageList.{IsPlacedOn}
use Rattle.pattern_images.specs.Placements.{Placement}
use Rattle.ready_images.specs.declared.want.Want.{Want}
use Rattle.ready_images.specs.Wants.{AreWantsOf, base_of}

any_or_not : (c : PatternCell) → (c ≡ kind.Any) ⊎ (c ≢ kind.Any)
any_or_not kind.Empty = inr (λ e. absurd cc)
any_or_not kind.Black = inr (λ e. absurd cc)
any_or_not kind.White = inr (λ e. absurd cc)
any_or_not kind.NotWhite = inr (λ e. absurd cc)
any_or_not kind.NotBlack = inr (λ e. absurd cc)
any_or_not kind.Any = inl refl

module _ (shape : Shape) (placement : Placement) (placed : IsPlacedOn shape placement) where
  abbrev base : ℕ
  base = base_of shape placement

  -- the number of a point under the placement
  pub number_under-base : (dx dy : ℕ) → number_under shape placement dx dy ≡ base + (dy * cols_of shape + dx)
  number_under-base dx dy = omega arith

  -- the points under it lie on the board
  pub number_under-on_board : (dx dy : ℕ) → dx < placement.grid.cols → dy < placement.grid.rows → number_under shape placement dx dy < point_count shape
  number_under-on_board dx dy in_cols in_rows =
      let below : (placement.y + dy) * cols_of shape + (placement.x + dx) < cols_of shape * rows_of shape =
      mul-add-lt (placement.y + dy) (cols_of shape) (placement.x + dx) (rows_of shape) (omega (arith, placed.rows)) (omega (arith, placed.columns)) in
      omega arith

  -- so does its upper left point
  pub base-on_board : base < point_count shape
  base-on_board = omega (arith, number_under-on_board 0 0 (omega (arith, placed.some_column)) (omega (arith, placed.some_row)), number_under-base 0 0)

  module _ (wants : List Want) (are : AreWantsOf shape placement.grid wants) where
    pub wants-on_board : All (λ (w : Want). base + w.offset < point_count shape) wants
    wants-on_board k d lt =
        let (dx, dy, in_cols, in_rows, (at, is)) = are.sound k d lt in
        omega (arith, number_under-on_board dx dy in_cols in_rows, number_under-base dx dy, at)

    module _ (position : Position) where
      -- the want is met in the position
      abbrev IsMet : Want → Type 0
      IsMet w = Allows w.cell (cell_at position (base + w.offset))

      met : Holds shape position placement → All IsMet wants
      met holds k d lt =
          let (dx, dy, in_cols, in_rows, (at, is)) = are.sound k d lt in
          let w : Want = slice_index_or wants k d in
          let here : number_under shape placement dx dy ≡ base + (slice_index_or wants k d).offset = number_under-base dx dy ∙ ap (λ (i : ℕ). base + i) (sym at) in
          subst (λ (c : PatternCell). Allows c (cell_at position (base + (slice_index_or wants k d).offset))) (sym is)
          (subst (λ (p : ℕ). Allows (cell_in placement.grid dx dy) (cell_at position p)) here (holds dx dy in_cols in_rows))

      held : All IsMet wants → Holds shape position placement
      held all dx dy in_cols in_rows = elim (any_or_not (cell_in placement.grid dx dy)) [
        | inl any ↦ subst (λ (c : PatternCell). Allows c (cell_at position (number_under shape placement dx dy))) (sym any) tt
        | inr asks ↦
            let (k, w, lt, read, (at, is)) = are.complete dx dy in_cols in_rows asks in
            let here : base + w.offset ≡ number_under shape placement dx dy = ap (λ (i : ℕ). base + i) at ∙ sym (number_under-base dx dy) in
            let is_met : IsMet w = subst IsMet read (all k w lt) in
            subst (λ (p : ℕ). Allows (cell_in placement.grid dx dy) (cell_at position p)) here (subst (λ (c : PatternCell). Allows c (cell_at position (base + w.offset))) is is_met)
      ]

      pub holds-wanted : Holds shape position placement ↔ All (λ (w : Want). Allows w.cell (cell_at position (base + w.offset))) wants
      holds-wanted = (met, held)
