use Rattle.sgf_reader.proofs.ReadOrFault.{read-or-fault}
use Rattle.sgf_reader.proofs.laws.a_text_is_read_or_has_a_first_fault.Goals as goal

pub returns : goal.returns
returns c = read-or-fault
