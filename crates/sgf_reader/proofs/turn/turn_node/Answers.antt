use Rattle.std.proofs.Common.{true}
use Rattle.sgf_reader.proofs.turn.turn_node.Goals as goal

pub returns-clause-stays : goal.returns-clause-stays
returns-clause-stays c = c.turn_between.ensures.stays true
