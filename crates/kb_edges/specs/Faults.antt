-- A count of faults never falls. It stands still once it is at the greatest number of 64 bits.
use Rattle.std.specs.Prelude.{ℕ, ◌+◌, ◌-◌, ◌^◌, ◌≤◌, min}

-- the greatest count, 18,446,744,073,709,551,615
abbrev pub fault_ceiling : ℕ
fault_ceiling = 2 ^ 64 - 1

-- the count rose by at least n, or stands at its ceiling
abbrev pub RoseBy : ℕ → ℕ → ℕ → Type 0
RoseBy n before now = min (before + n) fault_ceiling ≤ now

-- the count rose by at least one, or stands at its ceiling
abbrev pub Rose : ℕ → ℕ → Type 0
Rose before now = RoseBy 1 before now

-- the next count, or the ceiling
abbrev pub next_count : ℕ → ℕ
next_count n = min (n + 1) fault_ceiling
