-- A board that shows the position at a node: for the private functions.
use Rattle.std.specs.Prelude.{ℕ, Option}
use Rattle.capture_board.specs.Board.{ShapedPosition}
use Rattle.capture_board.specs.Deltas.{Deltas}
use Rattle.capture_board.specs.Walking.{StandsIn}

-- The board shows the position at the node, or above the root, as a walker there would.
abbrev pub Shows : Deltas → Option ℕ → ShapedPosition → Type 0
Shows changes here board = StandsIn changes (record {
  shape = board.shape;
  here = here;
  position = board.position;
})
