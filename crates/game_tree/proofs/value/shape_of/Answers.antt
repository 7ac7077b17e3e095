use Rattle.game_tree.proofs.Colons.{made_there}
use Rattle.game_tree.proofs.value.shape_of.Goals as goal

pub returns : goal.returns
returns c = made_there _ _ _ (c.new.ensures.sides.1 (c.requires.cols, c.requires.rows)) c.new.ensures.made
