use Rattle.std.proofs.Common.{refl, sym}
use Rattle.game_tree.proofs.Roots.{no_game_value, not_true, other_game_value, same_game_value}
use Rattle.game_tree.proofs.root.game_fault.Goals as goal

pub returns-in_err-pair : goal.returns-in_err-pair
returns-in_err-pair c = no_game_value _ _ _ (sym c.in_err-pair.ensures.value) c.from_residual.ensures

pub returns-then-is_go : goal.returns-then-is_go
returns-then-is_go c = same_game_value _ _ _ (sym c.in_ok-pair.ensures.value) (c.if-is_go.ensures.go refl)

pub returns-else-is_go : goal.returns-else-is_go
returns-else-is_go c = other_game_value _ _ _ _ (sym c.in_ok-pair.ensures.value) (c.if-is_go.ensures.other not_true) c.fault_at.ensures
