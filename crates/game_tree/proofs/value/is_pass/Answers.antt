use Rattle.game_tree.proofs.Passes.{empty_is, empty_pass, written_pass_on}
use Rattle.game_tree.proofs.value.is_pass.Goals as goal

pub returns-then-is_empty : goal.returns-then-is_empty
returns-then-is_empty c = (λ _. empty_pass _ _ (empty_is _ c.if-is_empty.ensures), λ _. c.if-is_empty.true)

pub returns-then-is_written_pass : goal.returns-then-is_written_pass
returns-then-is_written_pass c = written_pass_on _ _ _ (c.is_written_pass.ensures.0 c.if-is_written_pass.true) c.has_written_pass.ensures.0 c.has_written_pass.ensures.1
