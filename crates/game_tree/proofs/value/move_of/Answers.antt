use Rattle.game_tree.proofs.Passes.{bare_move}
use Rattle.game_tree.proofs.value.move_of.Goals as goal

pub returns-in-Some-clause-some : goal.returns-in-Some-clause-some
returns-in-Some-clause-some c = bare_move _ _ _ c.in-Some.ensures.some
