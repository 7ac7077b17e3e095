-- Positions packed in words: two bits a cell and 32 cells a word, the first cell in the highest
-- bits.
use Rattle.std.specs.Prelude.{◌≡◌, ◌≢◌, ℕ, ◌+◌, ◌-◌, ◌*◌, ◌/◌, ◌%◌, ◌^◌, ◌<◌, ◌≤◌, ◌==◌, if◌then◌else◌, List, length, map, slice_index}
use Rattle.std.specs.List.{range_with_len}
use Rattle.kb_geometry.specs.declared.stone.Cell.{Cell}
use Rattle.kb_geometry.specs.declared.stone.Cell.TheVariants as cell
use Rattle.kb_geometry.specs.Capture.{Position}

-- how many words have the cells of so many points
abbrev pub words_for : ℕ → ℕ
words_for points = (points + 31) / 32

-- the two bits at a place of a word, from the lowest ones on
abbrev pub digit_in : ℕ → ℕ → ℕ
digit_in word place = word / 2 ^ (2 * place) % 4

-- the place of a cell in its word
abbrev pub place_of : ℕ → ℕ
place_of p = 31 - p % 32

-- the two bits of a cell
abbrev pub digit_at : List ℕ → ℕ → ℕ
digit_at words p = digit_in (slice_index words (p / 32)) (place_of p)

-- the cell of two bits
abbrev pub cell_with : ℕ → Cell
cell_with digit = if digit == 1 then cell.Black else if digit == 2 then cell.White else cell.Empty

-- the cells of so many points
unfoldable pub cells_of : ℕ → List ℕ → Position
cells_of points words = map (λ p. cell_with (digit_at words p)) (range_with_len 0 points)

-- Words that hold the cells of so many points, and nothing else.
pub record AreCells (points : ℕ) (words : List ℕ) : Type 0 where
  pub room : length words ≡ words_for points
  pub fits : (k : ℕ) → slice_index words k < 2 ^ 64
  pub cells : (p : ℕ) → digit_at words p < 3
  pub rest : (p : ℕ) → points ≤ p → digit_at words p ≡ 0

-- the word with two other bits at a place
pub record IsWithDigit (word place digit new : ℕ) : Type 0 where
  pub here : digit_in new place ≡ digit
  pub others : (other : ℕ) → other < 32 → other ≢ place → digit_in new other ≡ digit_in word other
