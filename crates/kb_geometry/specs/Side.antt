-- How many columns or rows a board may have.
use Rattle.std.specs.Prelude.{ℕ, ◌≤◌}

-- a number of columns or rows that a board may have: 1 to 52
abbrev pub IsSide : ℕ → Type 0
IsSide n = (1 ≤ n) × (n ≤ 52)
