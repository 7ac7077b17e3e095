-- A set of numbers as a list, and what the calls on sets say of it.
use Rattle.std.specs.Prelude.{ℕ, ◌≤◌, List, Bool, Contains}
use Rattle.std.specs.List.{filter, range_with_len}

-- the numbers below a bound that pass a test, ascending, each once
unfoldable pub numbers_below : ℕ → (ℕ → Bool) → List ℕ
numbers_below bound test = filter test (range_with_len 0 bound)

-- m is the least member that is at least n
pub record IsNextFrom (members : List ℕ) (n m : ℕ) : Type 0 where
  pub member : Contains members m
  pub from : n ≤ m
  pub least : (k : ℕ) → Contains members k → n ≤ k → m ≤ k
