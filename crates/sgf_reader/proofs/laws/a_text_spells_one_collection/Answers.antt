use Rattle.sgf_reader.proofs.SpellsOne.{spells-one}
use Rattle.sgf_reader.proofs.laws.a_text_spells_one_collection.Goals as goal

pub returns : goal.returns
returns c = spells-one
