use Rattle.capture_board.proofs.Outcomes.{move_played}
use Rattle.capture_board.proofs.laws.a_move_has_an_outcome.Goals as goal

pub returns : goal.returns
returns c = move_played
