-- What is asked of the sets of a game is asked of its nodes.
use Rattle.std.proofs.Common.{◌≡◌, ◌≢◌, ℕ, ◌+◌, ◌*◌, ◌<◌, List, length, slice_index_or, ap, ◌⊎◌, refl, sym, ◌∙◌, subst, arith, inl, inr}
use Rattle.kb_geometry.specs.declared.shape.Shape.{Shape}
use Rattle.kb_geometry.specs.declared.stone.Cell.{Cell}
use Rattle.kb_geometry.specs.Board.{cols_of, point_count}
use Rattle.kb_geometry.specs.Symmetry.{point_of}
use Rattle.kb_geometry.specs.Capture.{cell_at}
use Rattle.kb_geometry.proofs.Shapes.{number_of-lt-count}
use Rattle.capture_board.specs.Deltas.{Deltas, node_count, position_at}
use Rattle.pattern_images.specs.declared.cell.PatternCell.{PatternCell}
use Rattle.pattern_images.specs.declared.cell.PatternCell.TheVariants as cell
use Rattle.pattern_images.specs.Grid.{Grid, cell_in}
use Rattle.pattern_images.specs.Holds.{Allows, Holds, number_under}
use Rattle.pattern_images.specs.ImageList.{IsPlacedOn}
use Rattle.pattern_images.specs.Placements.{Placement}
use Rattle.final_index.specs.declared.ever_sets.EverSets.{EverSets}
use Rattle.final_index.specs.Ever.{AreSetsOf}
use Rattle.candidate_sieve.specs.Kept.{WasAllowed, WereAllowed}
use Rattle.candidate_sieve.specs.Candidates.{HasAllowed, MeetsCells}

-- the points under a placement are on the board
pub under-lt : (shape : Shape) (placement : Placement) → IsPlacedOn shape placement → (dx dy : ℕ) → dx < placement.grid.cols → dy < placement.grid.rows → number_under shape placement dx dy < point_count shape
under-lt shape placement placed dx dy in_cols in_rows =
    number_of-lt-count shape (point_of (placement.x + dx) (placement.y + dy)) (omega (arith, placed.columns, in_cols), omega (arith, placed.rows, in_rows))

wildcard-or : (c : PatternCell) → (c ≡ cell.Any) ⊎ (c ≢ cell.Any)
wildcard-or cell.Empty = inr (λ e. absurd cc)
wildcard-or cell.Black = inr (λ e. absurd cc)
wildcard-or cell.White = inr (λ e. absurd cc)
wildcard-or cell.NotWhite = inr (λ e. absurd cc)
wildcard-or cell.NotBlack = inr (λ e. absurd cc)
wildcard-or cell.Any = inl refl

allows-any : (c : PatternCell) (s : Cell) → c ≡ cell.Any → Allows c s
allows-any c s e = subst (λ (d : PatternCell). Allows d s) (sym e) tt

module _ (deltas : Deltas) (sets : EverSets) (are : AreSetsOf deltas sets) where
  -- a point with a cell that is allowed, in the sets and at the nodes
  allowed-was : (p : ℕ) (c : PatternCell) → HasAllowed sets p c → WasAllowed deltas p c
  allowed-was p c (s, allows, there) =
      let was = (are s p).0 there in
      (was.1.0, was.1.1, subst (Allows c) (sym was.1.2) allows)

  was-allowed : (p : ℕ) (c : PatternCell) → p < point_count deltas.shape → WasAllowed deltas p c → HasAllowed sets p c
  was-allowed p c lt (n, within, allows) = (cell_at (position_at deltas n) p, allows, (are (cell_at (position_at deltas n) p) p).1 (lt, (n, within, refl)))

  module _ (placement : Placement) where
    pub meets-were : 0 < node_count deltas → MeetsCells deltas.shape sets placement → WereAllowed deltas placement
    meets-were some meets dx dy in_cols in_rows =
        let p = number_under deltas.shape placement dx dy in
        elim (wildcard-or (cell_in placement.grid dx dy)) [
          | inl any ↦ (0, some, allows-any (cell_in placement.grid dx dy) (cell_at (position_at deltas 0) p) any)
          | inr other ↦ allowed-was p (cell_in placement.grid dx dy) (meets dx dy in_cols in_rows other)
        ]

    pub were-meets : IsPlacedOn deltas.shape placement → WereAllowed deltas placement → MeetsCells deltas.shape sets placement
    were-meets placed were dx dy in_cols in_rows other =
        was-allowed (number_under deltas.shape placement dx dy) (cell_in placement.grid dx dy) (under-lt deltas.shape placement placed dx dy in_cols in_rows) (were dx dy in_cols in_rows)

-- a placement that holds at a node was allowed there
pub holds-were : (deltas : Deltas) (placement : Placement) (n : ℕ) → n < node_count deltas → Holds deltas.shape (position_at deltas n) placement → WereAllowed deltas placement
holds-were deltas placement n lt holds dx dy in_cols in_rows = (n, lt, holds dx dy in_cols in_rows)

-- ---- a row of cells

-- the cells of a placement's row are met
abbrev pub MeetsRowOf : Shape → EverSets → Placement → ℕ → Type 0
MeetsRowOf shape sets placement dy =
    (dx : ℕ) → dx < placement.grid.cols → cell_in placement.grid dx dy ≢ cell.Any →
    HasAllowed sets (number_under shape placement dx dy) (cell_in placement.grid dx dy)

-- the cells of a row that stands from a point on are met
abbrev pub MeetsRow : EverSets → List PatternCell → ℕ → Type 0
MeetsRow sets row start =
    (k : ℕ) → k < length row → slice_index_or row k cell.Any ≢ cell.Any →
    HasAllowed sets (start + k) (slice_index_or row k cell.Any)

module _ (shape : Shape) (placement : Placement) (grid : Grid) (same : grid ≡ placement.grid) (row : List PatternCell) (dy start : ℕ) (count : length row ≡ grid.cols)
    (cells : (dx : ℕ) → dx < grid.cols → slice_index_or row dx cell.Any ≡ cell_in grid dx dy) (from : start ≡ placement.y * cols_of shape + placement.x + dy * cols_of shape) where
  width : grid.cols ≡ placement.grid.cols
  width = ap (λ (g : Grid). g.cols) same

  pub row-cell : (dx : ℕ) → dx < placement.grid.cols → slice_index_or row dx cell.Any ≡ cell_in placement.grid dx dy
  row-cell dx lt = cells dx (omega (arith, lt, width)) ∙ ap (λ (g : Grid). cell_in g dx dy) same

  pub row-point : (dx : ℕ) → number_under shape placement dx dy ≡ start + dx
  row-point dx = omega (arith, from)

  pub row-told : (sets : EverSets) → MeetsRow sets row start → MeetsRowOf shape sets placement dy
  row-told sets meets dx lt other =
      let here = meets dx (omega (arith, lt, count, width)) (λ e. other (sym (row-cell dx lt) ∙ e)) in
      subst (λ (p : ℕ). HasAllowed sets p (cell_in placement.grid dx dy)) (sym (row-point dx)) (subst (HasAllowed sets (start + dx)) (row-cell dx lt) here)

  pub told-row : (sets : EverSets) → MeetsRowOf shape sets placement dy → MeetsRow sets row start
  told-row sets meets dx below other =
      let lt : dx < placement.grid.cols = omega (arith, below, count, width) in
      let here = meets dx lt (λ e. other (row-cell dx lt ∙ e)) in
      subst (λ (p : ℕ). HasAllowed sets p (slice_index_or row dx cell.Any)) (row-point dx) (subst (HasAllowed sets (number_under shape placement dx dy)) (sym (row-cell dx lt)) here)

-- where a row begins, by what is at hand
pub start_is : (y cols x dy yy cc xx dd : ℕ) → y ≡ yy → cols ≡ cc → x ≡ xx → dy ≡ dd → y * cols + x + dy * cols ≡ yy * cc + xx + dd * cc
start_is y cols x dy yy cc xx dd e f g h =
    ap (λ (n : ℕ). n * cols + x + dy * cols) e ∙ ap (λ (n : ℕ). yy * n + x + dy * n) f ∙ ap (λ (n : ℕ). yy * cc + n + dy * cc) g ∙ ap (λ (n : ℕ). yy * cc + xx + n * cc) h
