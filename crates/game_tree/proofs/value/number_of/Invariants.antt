use Rattle.std.proofs.Common.{◌≡◌, ℕ, length, min, ◌↔◌}
use Rattle.std.specs.Str.Parse.{AllDigits, digits_value, digits_value_after}
use Rattle.game_tree.specs.declared.value.TheConstants.{PAST_SIDE}
use Rattle.game_tree.proofs.value.number_of.Given as goal

abbrev pub invariant-loop-rest : goal.invariant-loop-rest
invariant-loop-rest l = record {
  value : (n : ℕ) × (l.number ≡ min n PAST_SIDE) × (digits_value 10 l.fn.text ≡ digits_value_after 10 n l.rest);
  digits : AllDigits 10 l.fn.text ↔ AllDigits 10 l.rest;
}

abbrev pub decreases-loop-rest : goal.decreases-loop-rest
decreases-loop-rest l = length l.rest
