-- The number that is taken from a record where an output names a version.
use Rattle.std.specs.Prelude.{◌≡◌, ℕ, ◌≤◌, false, List, [], ◌∷◌, ◌++◌}
use Rattle.std.specs.Char.{is_ascii_digit}
use Rattle.std.specs.Fmt.{decimal}

-- a byte is there, and the first one is no digit
abbrev pub BeginsWithoutDigit : List ℕ → Type 0
BeginsWithoutDigit [] = ⊥
BeginsWithoutDigit (byte ∷ bytes) = is_ascii_digit byte ≡ false

-- A number stands at the front of these bytes: its decimal digits, without leading zeros, and then a
-- byte that is no digit.
pub record StandsAt (bytes : List ℕ) (number : ℕ) : Type 0 where
  pub behind : List ℕ
  pub begins : bytes ≡ decimal number ++ behind
  pub ended : BeginsWithoutDigit behind

-- Of the numbers that are allowed the one that is taken where these bytes are left of a record: the
-- one that stands there, or else the least one.
pub data IsChosen (IsAllowed : ℕ → Type 0) (left : List ℕ) : ℕ → Type 0 where
  read : {number : ℕ} → IsAllowed number → StandsAt left number → IsChosen IsAllowed left number
  least : {number : ℕ} → ((other : ℕ) → IsAllowed other → ¬ StandsAt left other) →
      IsAllowed number → ((other : ℕ) → IsAllowed other → number ≤ other) →
      IsChosen IsAllowed left number
