use Rattle.std.proofs.Common.{◌-◌}
use Rattle.capture_board.specs.declared.board.TheConstants.{ROOM}
use Rattle.capture_board.proofs.Fills.{Filled}
use Rattle.capture_board.proofs.board.groups.find_surrounded.Given as goal

abbrev pub invariant-loop-visited : goal.invariant-loop-visited
invariant-loop-visited l = Filled l.shape l.cells l.start l.group l.visited

abbrev pub decreases-loop-visited : goal.decreases-loop-visited
decreases-loop-visited l = ROOM - l.visited
