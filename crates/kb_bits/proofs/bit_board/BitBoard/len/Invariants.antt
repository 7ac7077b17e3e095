use Rattle.std.proofs.Common.{◌≡◌, ◌*◌, length}
use Rattle.kb_bits.specs.Members.{numbers_below}
use Rattle.kb_bits.specs.Words.{has_bit}
use Rattle.kb_bits.proofs.bit_board.BitBoard.len.Given as goal

abbrev pub invariant-loop-word : goal.invariant-loop-word
invariant-loop-word l = l.count ≡ length (numbers_below (l.word * 64) (has_bit l.self-inside.words))
