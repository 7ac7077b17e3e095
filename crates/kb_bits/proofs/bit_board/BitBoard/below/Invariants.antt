use Rattle.kb_bits.proofs.Fronts.{AreFull}
use Rattle.kb_bits.proofs.bit_board.BitBoard.below.Given as goal

abbrev pub invariant-loop-k : goal.invariant-loop-k
invariant-loop-k l = AreFull l.words l.k 0
