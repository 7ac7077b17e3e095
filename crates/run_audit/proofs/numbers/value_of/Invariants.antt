use Rattle.std.proofs.Common.{◌≡◌, ◌<◌, ◌^◌, length}
use Rattle.std.specs.Str.Parse.{AllDigits, digits_value, digits_value_after}
use Rattle.run_audit.proofs.numbers.value_of.Given as goal

-- the value so far, and the digits that are left
abbrev pub invariant-loop-rest : goal.invariant-loop-rest
invariant-loop-rest l = record {
  value_is : digits_value 10 l.digits ≡ digits_value_after 10 l.value l.rest;
  are_digits : AllDigits 10 l.rest;
  small : l.value < 2 ^ 64;
}

abbrev pub decreases-loop-rest : goal.decreases-loop-rest
decreases-loop-rest l = length l.rest
