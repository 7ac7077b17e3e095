use Rattle.sgf_reader.proofs.OneFault.{first_fault-one}
use Rattle.sgf_reader.proofs.laws.a_text_has_one_first_fault.Goals as goal

pub returns : goal.returns
returns c = first_fault-one
