use Rattle.kb_bits.proofs.Unions.{AreUnited}
use Rattle.kb_bits.proofs.bit_board.BitBoard.union.Given as goal

abbrev pub invariant-loop-k : goal.invariant-loop-k
invariant-loop-k l = AreUnited l.self-inside.words l.other-inside.words l.words l.k
