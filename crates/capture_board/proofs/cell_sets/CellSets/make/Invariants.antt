use Rattle.std.proofs.Common.{◌≡◌, take}
use Rattle.capture_board.specs.Changes.{with_changes}
use Rattle.capture_board.proofs.CellSetLemmas.{board_with}
use Rattle.capture_board.proofs.cell_sets.CellSets.make.Given as goal

abbrev pub invariant-loop-change : goal.invariant-loop-change
invariant-loop-change l = l.self ≡ board_with l.fn.self.shape (with_changes l.fn.self.position (take l.change-index l.changes))
