-- Points of consecutive numbers that get one cell.
use Rattle.std.specs.Prelude.{◌≡◌, ℕ, ◌<◌, ◌≤◌, ◌⊎◌, length}
use Rattle.kb_geometry.specs.declared.stone.Cell.{Cell}
use Rattle.kb_geometry.specs.Capture.{Position, cell_at}

-- after is before with the cell on the points from first up to before end
pub record IsRunSet (stone : Cell) (first end : ℕ) (before after : Position) : Type 0 where
  pub same_length : length after ≡ length before
  pub inside : (q : ℕ) → first ≤ q → q < end → cell_at after q ≡ stone
  pub outside : (q : ℕ) → (q < first) ⊎ (end ≤ q) → cell_at after q ≡ cell_at before q
