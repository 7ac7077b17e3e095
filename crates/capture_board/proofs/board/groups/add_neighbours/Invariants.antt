use Rattle.capture_board.proofs.Fills.{Reached}
use Rattle.capture_board.proofs.board.groups.add_neighbours.Given as goal

abbrev pub invariant-loop-next : goal.invariant-loop-next
invariant-loop-next l = Reached l.fn.shape l.cells l.stone l.point l.next-items l.initial.group l.group l.next-index
