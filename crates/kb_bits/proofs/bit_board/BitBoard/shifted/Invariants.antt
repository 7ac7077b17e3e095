use Rattle.kb_bits.proofs.Shifts.{AreMoved}
use Rattle.kb_bits.proofs.bit_board.BitBoard.shifted.Given as goal

abbrev pub invariant-loop-k : goal.invariant-loop-k
invariant-loop-k l = AreMoved l.self-inside.words l.words l.skip l.bits l.k l.before
