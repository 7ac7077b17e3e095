use Rattle.kb_bits.specs.declared.bit_board.TheConstants.{WORDS}
use Rattle.kb_bits.proofs.Readings.{zero_words, AreWords-none, members-none}
use Rattle.kb_bits.proofs.bit_board.BitBoard.empty.Goals as goal

pub invariant_of-result : goal.invariant_of-result
invariant_of-result c = AreWords-none

pub returns : goal.returns
returns c = members-none _ (zero_words WORDS)
