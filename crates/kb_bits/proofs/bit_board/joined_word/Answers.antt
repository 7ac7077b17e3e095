use Rattle.kb_bits.proofs.JoinedWords.{IsJoined-or}
use Rattle.kb_bits.proofs.bit_board.joined_word.Goals as goal

pub returns : goal.returns
returns c = IsJoined-or c.args.word c.args.before c.args.bits c.requires c.ranges.before.fits
