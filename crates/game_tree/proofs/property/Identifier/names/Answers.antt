use Rattle.game_tree.proofs.Properties.{other_name}
use Rattle.game_tree.proofs.property.Identifier.names.Goals as goal

pub returns-in-Other : goal.returns-in-Other
returns-in-Other c = other_name _ _ _ (c.letters_of.ensures.other c.in-Other.is)
