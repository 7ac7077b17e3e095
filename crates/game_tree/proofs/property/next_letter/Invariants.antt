use Rattle.std.proofs.Common.{◌≡◌, length, filter}
use Rattle.game_tree.specs.Property.{is_upper}
use Rattle.game_tree.proofs.property.next_letter.Given as goal

abbrev pub invariant-loop-rest : goal.invariant-loop-rest
invariant-loop-rest l = filter is_upper l.rest ≡ filter is_upper l.fn.name

abbrev pub decreases-loop-rest : goal.decreases-loop-rest
decreases-loop-rest l = length l.rest
