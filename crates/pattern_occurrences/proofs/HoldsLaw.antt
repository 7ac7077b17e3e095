-- The test of a placement is true exactly where the placement holds.
use Rattle.std.proofs.Common.{ℕ, Bool, refl}
use Rattle.std.specs.Bool.{Decides}
use Rattle.std.specs.List.{list_all, range_with_len}
use Rattle.kb_geometry.specs.declared.shape.Shape.{Shape}
use Rattle.kb_geometry.specs.declared.stone.Cell.{Cell}
use Rattle.kb_geometry.specs.declared.stone.Cell.TheVariants as stone
use Rattle.kb_geometry.specs.Capture.{Position, cell_at}
use Rattle.pattern_images.specs.declared.cell.PatternCell.{PatternCell}
use Rattle.pattern_images.specs.declared.cell.PatternCell.TheVariants as cell
use Rattle.pattern_images.specs.Grid.{cell_in}
use Rattle.pattern_images.specs.Placements.{Placement}
use Rattle.pattern_images.specs.Holds.{Allows, Holds, number_under}
use Rattle.pattern_occurrences.specs.Occurrences.{allows, holds}
use Rattle.pattern_occurrences.proofs.Ranges.{all_below}

pub allows-decides : (c : PatternCell) (s : Cell) → Decides (allows c s) (Allows c s)
allows-decides cell.Any s = (λ _. tt, λ _. refl)
allows-decides cell.Empty stone.Empty = (λ _. refl, λ _. refl)
allows-decides cell.Empty stone.Black = (λ e. absurd cc, λ e. absurd cc)
allows-decides cell.Empty stone.White = (λ e. absurd cc, λ e. absurd cc)
allows-decides cell.Black stone.Empty = (λ e. absurd cc, λ e. absurd cc)
allows-decides cell.Black stone.Black = (λ _. refl, λ _. refl)
allows-decides cell.Black stone.White = (λ e. absurd cc, λ e. absurd cc)
allows-decides cell.White stone.Empty = (λ e. absurd cc, λ e. absurd cc)
allows-decides cell.White stone.Black = (λ e. absurd cc, λ e. absurd cc)
allows-decides cell.White stone.White = (λ _. refl, λ _. refl)
allows-decides cell.NotWhite stone.Empty = (λ _ e. absurd cc, λ _. refl)
allows-decides cell.NotWhite stone.Black = (λ _ e. absurd cc, λ _. refl)
allows-decides cell.NotWhite stone.White = (λ e. absurd cc, λ ne. absurd (ne refl))
allows-decides cell.NotBlack stone.Empty = (λ _ e. absurd cc, λ _. refl)
allows-decides cell.NotBlack stone.Black = (λ e. absurd cc, λ ne. absurd (ne refl))
allows-decides cell.NotBlack stone.White = (λ _ e. absurd cc, λ _. refl)

module _ (shape : Shape) (position : Position) (placement : Placement) where
  row : ℕ → ℕ → Bool
  row dy dx = allows (cell_in placement.grid dx dy) (cell_at position (number_under shape placement dx dy))

  pub holds-decides : Decides (holds shape position placement) (Holds shape position placement)
  holds-decides =
      let test : ℕ → ℕ → Bool = λ dy dx. allows (cell_in placement.grid dx dy) (cell_at position (number_under shape placement dx dy)) in
      let rows = all_below (λ dy. list_all (test dy) (range_with_len 0 placement.grid.cols)) placement.grid.rows in
      let cols = λ (dy : ℕ). all_below (test dy) placement.grid.cols in (
        λ t dx dy in_cols in_rows. (allows-decides (cell_in placement.grid dx dy) (cell_at position (number_under shape placement dx dy))).0 ((cols dy).0 (rows.0 t dy in_rows) dx in_cols),
        λ h. rows.1 (λ dy in_rows. (cols dy).1 (λ dx in_cols. (allows-decides (cell_in placement.grid dx dy) (cell_at position (number_under shape placement dx dy))).1 (h dx dy in_cols in_rows))),
      )
