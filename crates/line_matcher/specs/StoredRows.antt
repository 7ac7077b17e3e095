-- How the rows of rectangles are stored.
use Rattle.std.specs.Prelude.{◌≤◌, List, length, slice_range}
use Rattle.line_matcher.specs.declared.mask.RowMask.{RowMask}
use Rattle.line_matcher.specs.declared.grid_rows.RowRange.{RowRange}

-- the rows in the range
abbrev pub rows_in : List RowMask → RowRange → List RowMask
rows_in rows range = slice_range rows range.start range.end

-- the range lies within the list of rows
pub record IsRangeOf (rows : List RowMask) (range : RowRange) : Type 0 where
  pub ordered : range.start ≤ range.end
  pub ends : range.end ≤ length rows
