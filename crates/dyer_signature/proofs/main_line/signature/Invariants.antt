use Rattle.dyer_signature.proofs.SoFar.{IsSignatureSoFar}
use Rattle.dyer_signature.proofs.main_line.signature.Given as goal

abbrev pub invariant-loop-n : goal.invariant-loop-n
invariant-loop-n l = IsSignatureSoFar l.tree l.n l.signature.bytes
