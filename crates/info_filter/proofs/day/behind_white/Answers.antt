use Rattle.std.proofs.Common.{arith}
use Rattle.game_tree.proofs.Values.{more_white}
use Rattle.info_filter.proofs.day.behind_white.Goals as goal

pub loop-rest-preserved : goal.loop-rest-preserved
loop-rest-preserved c = more_white _ _ c.loop-rest.invariant c.in-len1-up.len_at_least (omega arith)
