-- Definitions of the private types: how rectangles of cells and places are stored.
use Rattle.std.specs.Prelude.{ℕ, ◌+◌, List, slice_range}
use Rattle.kb_geometry.specs.Board.{cols_of, rows_of, point_count}
use Rattle.pattern_images.specs.declared.cell.PatternCell.{PatternCell}
use Rattle.pattern_images.specs.declared.grids.StoredGrid.{StoredGrid}
use Rattle.pattern_images.specs.Grid.{Grid}

-- where the cells of a stored rectangle end in the list of all cells
abbrev pub end_of : StoredGrid → ℕ
end_of g = g.start + point_count g.size

-- the rectangle that is stored so in the list of all cells
abbrev pub stored_grid : List PatternCell → StoredGrid → Grid
stored_grid cells g = record {
  cols = cols_of g.size;
  rows = rows_of g.size;
  cells = slice_range cells g.start (end_of g);
}
