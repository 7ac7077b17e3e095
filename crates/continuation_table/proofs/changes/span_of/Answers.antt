use Rattle.continuation_table.proofs.Spans.{span-corners}
use Rattle.continuation_table.proofs.changes.span_of.Goals as goal

pub returns : goal.returns
returns c = λ placement is. span-corners c.args.shape placement c.args.place is c.number.result c.number-2.result c.number.ensures.value c.number-2.ensures.value
