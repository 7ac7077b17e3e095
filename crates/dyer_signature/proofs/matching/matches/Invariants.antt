use Rattle.dyer_signature.proofs.PatternImages.{AreUnlike}
use Rattle.dyer_signature.proofs.matching.matches.Given as goal

abbrev pub invariant-loop-number : goal.invariant-loop-number
invariant-loop-number l = AreUnlike l.shape l.number l.s.bytes l.pattern.bytes
