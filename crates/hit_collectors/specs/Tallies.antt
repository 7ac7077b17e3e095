-- What a box tells, and what hits add to its numbers.
use Rattle.std.specs.Prelude.{ℕ, ◌+◌, ◌-◌, ◌/◌, ◌==◌, min, Option, Some, None, List, length, map, count_by, slice_index_or, if◌then◌else◌}
use Rattle.std.specs.List.{range_with_len}
use Rattle.kb_geometry.specs.declared.stone.Outcome.{Outcome}
use Rattle.kb_geometry.specs.declared.stone.Outcome.TheVariants as outcome
use Rattle.kb_geometry.specs.Symmetry.{number_of_label}
use Rattle.pattern_images.specs.declared.hit.Hit.{Hit}
use Rattle.pattern_images.specs.declared.hit.Next.{Next}
use Rattle.hit_collectors.specs.declared.kind.Kind.{Kind}
use Rattle.hit_collectors.specs.declared.kind.Kind.TheVariants as kind

-- what a box tells: its name in bytes, its kind, and the numbers of its tally
pub record BoxTally : Type 0 where
  pub name : List ℕ
  pub kind : Kind
  pub numbers : List ℕ

-- how many numbers a tally of a kind has
abbrev pub number_count : Kind → ℕ
number_count kind.Total = 1
number_count kind.Labels = 16
number_count kind.Phases = 31
number_count kind.Outcomes = 6
number_count kind.Nexts = 3

-- the most that a number of a tally comes to
unfoldable pub greatest : ℕ
greatest = 18446744073709551615

-- the results in the order of a tally by outcomes
abbrev pub number_of_outcome : Outcome → ℕ
number_of_outcome outcome.Black = 0
number_of_outcome outcome.White = 1
number_of_outcome outcome.Draw = 2
number_of_outcome outcome.Void = 3
number_of_outcome outcome.Unknown = 4
number_of_outcome outcome.Other = 5

-- the ways in which play goes on, in the order of a tally by them: at once, later, not at all
abbrev pub number_of_next : Option Next → ℕ
number_of_next None = 2
number_of_next (Some next) = if next.now then 0 else 1

-- Which number of a tally of this kind counts a hit, from 0 on. The label is the hit's own. Phases
-- are the tens of the node's move number, all from 300 on in the last one.
abbrev pub counted_by : Kind → Hit → ℕ
counted_by kind.Total hit = 0
counted_by kind.Labels hit = number_of_label hit.place.label
counted_by kind.Phases hit = min (hit.moves / 10) 30
counted_by kind.Outcomes hit = number_of_outcome hit.outcome
counted_by kind.Nexts hit = number_of_next hit.next

-- how many of the hits the number k of a tally of this kind counts
abbrev pub count_at : Kind → List Hit → ℕ → ℕ
count_at kind hits k = count_by (λ (hit : Hit). counted_by kind hit == k) hits

-- a number that goes up by so many, but not beyond the greatest
abbrev pub raised : ℕ → ℕ → ℕ
raised number count = number + min count (greatest - number)

-- the numbers of a tally, each with the hits added that it counts
abbrev pub numbers_with : Kind → List Hit → List ℕ → List ℕ
numbers_with kind hits numbers =
    map (λ k. raised (slice_index_or numbers k 0) (count_at kind hits k))
    (range_with_len 0 (length numbers))

-- what a box tells with these hits added to its numbers
abbrev pub with_hits : List Hit → BoxTally → BoxTally
with_hits hits told = record {
  name = told.name;
  kind = told.kind;
  numbers = numbers_with told.kind hits told.numbers;
}
