use Rattle.session_core.proofs.WholeOutputs.{output-found}
use Rattle.session_core.proofs.laws.each_script_has_a_lawful_output.Goals as goal

pub returns : goal.returns
returns c = output-found
