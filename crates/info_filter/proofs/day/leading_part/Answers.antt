use Rattle.info_filter.proofs.DateTexts.{part_at_end, part_missing, part_there}
use Rattle.info_filter.proofs.day.leading_part.Goals as goal

pub returns-then-is_empty-clause-some : goal.returns-then-is_empty-clause-some
returns-then-is_empty-clause-some c = part_at_end c.args.text.now c.if-is_empty.ensures

pub returns-clause-some : goal.returns-clause-some
returns-clause-some c = part_there c.args.text.now c.written_part.result c.written_part.ensures.some

pub returns-clause-none : goal.returns-clause-none
returns-clause-none c none = part_missing c.args.text.now c.if-is_empty.ensures (c.written_part.ensures.none none)
