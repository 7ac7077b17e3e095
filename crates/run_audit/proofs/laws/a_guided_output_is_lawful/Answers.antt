use Rattle.run_audit.proofs.GuidedLawful.{guided-lawful}
use Rattle.run_audit.proofs.laws.a_guided_output_is_lawful.Goals as goal

pub returns : goal.returns
returns c = guided-lawful
