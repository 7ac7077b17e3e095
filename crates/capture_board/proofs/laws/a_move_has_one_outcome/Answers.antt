use Rattle.capture_board.proofs.Captures.{IsPlayed-unique}
use Rattle.capture_board.proofs.laws.a_move_has_one_outcome.Goals as goal

pub returns : goal.returns
returns c = IsPlayed-unique
