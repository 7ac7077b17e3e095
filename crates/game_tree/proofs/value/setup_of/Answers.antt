use Rattle.std.proofs.Common.{refl}
use Rattle.game_tree.proofs.Passes.{empty_is, no_setup, not_empty, nothing_set}
use Rattle.game_tree.proofs.value.setup_of.Goals as goal

pub returns-then-is_empty-clause-some : goal.returns-then-is_empty-clause-some
returns-then-is_empty-clause-some c = nothing_set _ _ _ c.trimmed-text.ensures (empty_is _ c.if-is_empty.ensures)

pub returns-in_err-rect_at-clause-none : goal.returns-in_err-rect_at-clause-none
returns-in_err-rect_at-clause-none c = λ _. no_setup _ _ _ c.trimmed-text.ensures (not_empty _ c.if-is_empty.ensures) (c.in_err-rect_at.ensures.none refl)
