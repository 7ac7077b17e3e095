use Rattle.pattern_syntax.proofs.Spelled.{spells-one}
use Rattle.pattern_syntax.proofs.laws.a_text_spells_one_pattern.Goals as goal

pub returns : goal.returns
returns c = spells-one
