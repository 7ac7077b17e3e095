use Rattle.std.proofs.Common.{◌≡◌}
use Rattle.board_cases.proofs.board_steps.drawn.Given as goal

abbrev pub invariant-loop-number : goal.invariant-loop-number
invariant-loop-number l = l.board.shape ≡ l.shape
