use Rattle.game_tree.proofs.Passes.{empty_is}
use Rattle.game_tree.proofs.Roots.{go_if_empty, go_if_one}
use Rattle.game_tree.proofs.root.is_go.Goals as goal

pub returns-then-is_empty-clause-go : goal.returns-then-is_empty-clause-go
returns-then-is_empty-clause-go c = λ _. go_if_empty c.args.text.now c.args.pair _ (rw c.bytes_of.ensures at c.trimmed-value.ensures) (empty_is _ c.if-is_empty.ensures)

pub returns-else-is_empty-clause-go : goal.returns-else-is_empty-clause-go
returns-else-is_empty-clause-go c = λ same. go_if_one c.args.text.now c.args.pair _ (rw c.bytes_of.ensures at c.trimmed-value.ensures) (c.is_one.ensures.0 same)
