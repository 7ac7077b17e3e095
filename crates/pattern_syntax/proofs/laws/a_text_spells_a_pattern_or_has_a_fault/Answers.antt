use Rattle.pattern_syntax.proofs.Reading.{faultless-spells}
use Rattle.pattern_syntax.proofs.Spelled.{spelled-faultless}
use Rattle.pattern_syntax.proofs.laws.a_text_spells_a_pattern_or_has_a_fault.Goals as goal

pub returns : goal.returns
returns c = λ text. ((λ spelled. spelled-faultless text spelled.0 spelled.1), faultless-spells text)
