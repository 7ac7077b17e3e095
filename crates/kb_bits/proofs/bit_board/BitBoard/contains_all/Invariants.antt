use Rattle.kb_bits.proofs.Subsets.{TellsLacking}
use Rattle.kb_bits.proofs.bit_board.BitBoard.contains_all.Given as goal

abbrev pub invariant-loop-k : goal.invariant-loop-k
invariant-loop-k l = TellsLacking l.self-inside.words l.other-inside.words l.k l.missing
