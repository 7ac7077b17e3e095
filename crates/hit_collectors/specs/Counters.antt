-- What a counter tells of itself.
use Rattle.std.specs.Prelude.{string_bytes, take}
use Rattle.hit_collectors.specs.declared.counter.Counter.{Counter}
use Rattle.hit_collectors.specs.Tallies.{BoxTally, number_count}

-- its name, its kind, and as many numbers of its room as the kind has
abbrev pub told_by : Counter → BoxTally
told_by counter = record {
  name = string_bytes counter.name;
  kind = counter.kind;
  numbers = take (number_count counter.kind) counter.numbers;
}
