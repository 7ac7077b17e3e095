use Rattle.sgf_reader.proofs.FlatLists.{last_end-before}
use Rattle.sgf_reader.proofs.flat.end_before.Goals as goal

pub returns-else-number-eq0 : goal.returns-else-number-eq0
returns-else-number-eq0 c = last_end-before c.args.ends.now c.args.number 0 c.if-number-eq0.false c.requires
