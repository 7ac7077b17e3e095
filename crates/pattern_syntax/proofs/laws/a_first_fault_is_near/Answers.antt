use Rattle.pattern_syntax.proofs.Reading.{first_fault-near}
use Rattle.pattern_syntax.proofs.laws.a_first_fault_is_near.Goals as goal

pub returns : goal.returns
returns c = first_fault-near
