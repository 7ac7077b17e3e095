-- What can be wrong with a text that is to spell a pattern, and at which byte. Offsets count from
-- 0, and the end of a text has its length for an offset.
use Rattle.std.specs.Prelude.{◌≡◌, ◌≢◌, ℕ, ◌+◌, ◌<◌, ◌≤◌, ◌⊎◌, ◌==◌, List, length, take, slice_index}
use Rattle.std.specs.List.{count_by}
use Rattle.pattern_images.specs.declared.cell.PatternCell.{PatternCell}
use Rattle.pattern_syntax.specs.Text.{slash, cell_byte}

-- a byte that may stand in a text: `/` or the byte of a cell
abbrev pub IsPatternByte : ℕ → Type 0
IsPatternByte byte = (byte ≡ slash) ⊎ ((cell : PatternCell) × (cell_byte cell ≡ byte))

-- a `/` stands at this offset
abbrev pub HasSlash : List ℕ → ℕ → Type 0
HasSlash text k = (k < length text) × (slice_index text k ≡ slash)

-- One row of the text is what stands from one offset up to another: the text begins or a `/` stands
-- before it, the text ends or a `/` stands behind it, and no `/` stands in it.
pub record IsRow (text : List ℕ) (from to : ℕ) : Type 0 where
  pub ordered : from ≤ to
  pub begins : (from ≡ 0) ⊎ ((before : ℕ) × (before + 1 ≡ from) × HasSlash text before)
  pub whole : (k : ℕ) → from ≤ k → k < to → ¬ HasSlash text k
  pub ends : (to ≡ length text) ⊎ HasSlash text to

-- how many `/` stand before an offset
abbrev pub slashes_before : List ℕ → ℕ → ℕ
slashes_before text k = count_by (λ byte. byte == slash) (take k text)

-- The text has a fault at this offset.
pub data HasPatternFault (text : List ℕ) (k : ℕ) : Type 0 where
  -- a byte that may not stand in a text
  unknown_byte : k < length text → ¬ IsPatternByte (slice_index text k) → HasPatternFault text k
  -- the `/` or the end behind an empty row
  empty_row : IsRow text k k → HasPatternFault text k
  -- the `/` or the end behind a row of another length than the first
  uneven_row : (first from : ℕ) → IsRow text 0 first → IsRow text from k → from + first ≢ k →
      HasPatternFault text k
  -- the 53rd byte of a row
  long_row : (from to : ℕ) → IsRow text from to → from + 52 ≡ k → k < to → HasPatternFault text k
  -- the `/` before a 53rd row
  many_rows : HasSlash text k → slashes_before text k + 1 ≡ 52 → HasPatternFault text k

-- The text has a fault at this offset, and none before it.
pub record IsFirstPatternFault (text : List ℕ) (k : ℕ) : Type 0 where
  pub here : HasPatternFault text k
  pub none_before : (j : ℕ) → j < k → ¬ HasPatternFault text j
