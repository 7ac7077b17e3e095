use Rattle.game_tree.proofs.Properties.{no_property}
use Rattle.game_tree.proofs.property.Property.of.Goals as goal

pub returns-in-Other : goal.returns-in-Other
returns-in-Other c = no_property _ (c.letters_of.ensures.other c.in-Other.is)
