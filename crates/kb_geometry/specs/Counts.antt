-- What one thing more adds to a count.
use Rattle.std.specs.Prelude.{ℕ, Bool, if◌then◌else◌}

-- 1 if it is true, else 0
abbrev pub one_if : Bool → ℕ
one_if b = if b then 1 else 0
