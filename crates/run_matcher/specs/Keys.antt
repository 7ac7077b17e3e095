-- Occurrences, and how far they are known to hold, as numbers, the keys: definitions for the private
-- functions.
use Rattle.std.specs.Prelude.{ℕ, ◌+◌, ◌*◌, ◌/◌, ◌%◌, nat_lt, if◌then◌else◌, List, map}
use Rattle.pattern_occurrences.specs.declared.occurrence.Occurrence.{Occurrence}
use Rattle.run_matcher.specs.declared.begun.Begun.{Begun}
use Rattle.run_matcher.specs.declared.begun.HoldsTo.{HoldsTo}
use Rattle.run_matcher.specs.declared.begun.HoldsTo.TheVariants as holding

-- the number that tells how far a placement is known to hold: the end, or 0 where nothing is known
abbrev pub end_number : HoldsTo → ℕ
end_number (holding.Known end) = end
end_number holding.Unknown = 0

-- what such a number tells
abbrev pub holds_by : ℕ → HoldsTo
holds_by number = if nat_lt 0 number then holding.Known number else holding.Unknown

-- the key of a placement that begins to hold at a node, with the number that tells how far it holds
abbrev pub key_of : ℕ → ℕ → ℕ → ℕ
key_of placement known node = (node * 65536 + placement) * 131072 + known

-- the number of its occurrence, which is its node and the placement alone
abbrev pub occurrence_number : ℕ → ℕ
occurrence_number key = key / 131072

-- the occurrence with a number
abbrev pub occurrence_of : ℕ → Occurrence
occurrence_of number = record { node = number / 65536; placement = number % 65536 }

-- what a key stands for
abbrev pub begun_of : ℕ → Begun
begun_of key = record { occurrence = occurrence_of (occurrence_number key); holds = holds_by (key % 131072) }

-- what these keys stand for
abbrev pub begun_list : List ℕ → List Begun
begun_list keys = map begun_of keys
