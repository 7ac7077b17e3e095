use Rattle.std.proofs.Common.{refl}
use Rattle.game_tree.proofs.Passes.{move_at, no_move}
use Rattle.game_tree.proofs.value.trimmed_move_of.Goals as goal

pub returns-in_err-point_of-clause-none : goal.returns-in_err-point_of-clause-none
returns-in_err-point_of-clause-none c = λ _. no_move _ _ _ c.trimmed-text.ensures (λ is. let pass = c.is_pass.ensures.1 is in cc (pass, c.if-is_pass.false)) (c.in_err-point_of.ensures.none refl)

pub returns-in_ok-point_of-clause-some : goal.returns-in_ok-point_of-clause-some
returns-in_ok-point_of-clause-some c = move_at _ _ _ _ c.trimmed-text.ensures c.in_ok-point_of.ensures.some
