use Rattle.std.proofs.Common.{false}
use Rattle.sgf_reader.proofs.turn.turn_after_tree.Goals as goal

pub returns-clause-stays : goal.returns-clause-stays
returns-clause-stays c = c.turn_between.ensures.stays false
