use Rattle.sgf_reader.proofs.StepLemmas.{same_error}
use Rattle.sgf_reader.proofs.reader.read.Goals as goal

pub returns-in_err-flat-clause-fault : goal.returns-in_err-flat-clause-fault
returns-in_err-flat-clause-fault c = λ f is. c.read_flat.ensures.fault f (same_error _ _ _ _ c.from_residual.ensures.1 c.in_err-flat.was is)
