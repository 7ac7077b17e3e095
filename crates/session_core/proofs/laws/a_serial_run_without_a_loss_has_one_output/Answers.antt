use Rattle.session_core.proofs.OneOutput.{one-output}
use Rattle.session_core.proofs.laws.a_serial_run_without_a_loss_has_one_output.Goals as goal

pub returns : goal.returns
returns c = one-output
