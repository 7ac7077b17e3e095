-- Placements in rows.
use Rattle.std.specs.Prelude.{◌≡◌, ℕ, ◌+◌, ◌<◌, ◌≤◌, List, length, slice_index, slice_index_or}
use Rattle.pattern_images.specs.ImageList.{ImageList, grid_at, placement_at}
use Rattle.ready_images.specs.Wants.{base_of}
use Rattle.ready_images.specs.declared.row.Row.{Row}

-- no placement in a row
abbrev pub no_row : Row
no_row = record { class = 0; base = 0; start = 0; count = 0 }

-- the row with this number
abbrev pub row_at : List Row → ℕ → Row
row_at rows r = slice_index_or rows r no_row

-- the placement with this number has the cells of the class
pub record HasClass (images : ImageList) (i class : ℕ) : Type 0 where
  pub in_range : class < length images.grids
  pub cells : grid_at images.grids class ≡ (placement_at images.placements i).grid

-- The row has placements of its class, and their upper left points follow one another.
pub record IsRowIn (images : ImageList) (numbers : List ℕ) (row : Row) : Type 0 where
  pub some : 0 < row.count
  pub within : row.start + row.count ≤ length numbers
  pub classes : (k : ℕ) → k < row.count →
      HasClass images (slice_index numbers (row.start + k)) row.class
  pub bases : (k : ℕ) → k < row.count → row.base + k
      ≡ base_of images.shape (placement_at images.placements (slice_index numbers (row.start + k)))

-- the first so many rows end at a place in the list of numbers
abbrev pub EndAt : List Row → ℕ → ℕ → Type 0
EndAt rows r n = (r ≡ 0 → n ≡ 0) × ((q : ℕ) → r ≡ q + 1 →
    n ≡ (row_at rows q).start + (row_at rows q).count)

-- The list of numbers is parted into the rows, one behind the other.
pub record AreRowsTo (images : ImageList) (numbers : List ℕ) (rows : List Row) : Type 0 where
  pub each : (r : ℕ) → r < length rows → IsRowIn images numbers (row_at rows r)
  pub parted : (r : ℕ) → r < length rows → EndAt rows r (row_at rows r).start
  pub whole : EndAt rows (length rows) (length numbers)

-- The list of numbers has each placement once, and is parted into the rows.
pub record AreRowsOf (images : ImageList) (numbers : List ℕ) (rows : List Row) : Type 0 where
  pub in_range : (k : ℕ) → k < length numbers → slice_index numbers k < length images.placements
  pub complete : (i : ℕ) → i < length images.placements →
      (k : ℕ) × (k < length numbers) × (slice_index numbers k ≡ i)
  pub once : (j k : ℕ) → j < length numbers → k < length numbers →
      slice_index numbers j ≡ slice_index numbers k → j ≡ k
  pub are_rows : AreRowsTo images numbers rows
