use Rattle.dyer_signature.proofs.Turnings.{IsLeastBelow}
use Rattle.dyer_signature.proofs.images.canonical.Given as goal

abbrev pub invariant-loop-number : goal.invariant-loop-number
invariant-loop-number l = IsLeastBelow l.shape l.number l.s.bytes l.least.bytes
