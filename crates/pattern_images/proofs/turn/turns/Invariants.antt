use Rattle.std.proofs.Common.{◌≡◌, length}
use Rattle.pattern_images.specs.Turns.{AreTurns}
use Rattle.pattern_images.proofs.turn.turns.Given as goal

-- the turns of the labels so far
abbrev pub invariant-loop-number : goal.invariant-loop-number
invariant-loop-number l = AreTurns l.query l.shape l.grids l.turns.items × (length l.turns.items ≡ l.number)
