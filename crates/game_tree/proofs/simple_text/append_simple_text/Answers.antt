use Rattle.game_tree.proofs.Passes.{empty_is}
use Rattle.game_tree.proofs.SimpleTexts.{all_read}
use Rattle.game_tree.proofs.simple_text.append_simple_text.Goals as goal

pub returns : goal.returns
returns c = all_read _ _ _ _ c.loop-rest.invariant (empty_is _ c.loop-rest-test.ensures)
