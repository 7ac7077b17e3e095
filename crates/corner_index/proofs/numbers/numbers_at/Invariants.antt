use Rattle.std.proofs.Common.{take}
use Rattle.capture_board.specs.Changes.{with_changes}
use Rattle.capture_board.specs.Deltas.{parent_of, position_where}
use Rattle.corner_index.specs.Keys.{AreNumbersOn}
use Rattle.corner_index.proofs.numbers.numbers_at.Given as goal

abbrev pub invariant-loop-change : goal.invariant-loop-change
invariant-loop-change l = AreNumbersOn l.shape (with_changes (position_where l.deltas (parent_of l.deltas l.n)) (take l.change-index l.changes)) l.numbers
