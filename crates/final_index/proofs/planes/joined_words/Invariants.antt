use Rattle.final_index.proofs.JoinedBits.{AreJoinedBelow}
use Rattle.final_index.proofs.planes.joined_words.Given as goal

abbrev pub invariant-loop-k : goal.invariant-loop-k
invariant-loop-k l = AreJoinedBelow l.a l.b l.by l.k l.words.items
