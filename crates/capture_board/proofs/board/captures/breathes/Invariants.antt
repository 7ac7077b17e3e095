use Rattle.std.proofs.Common.{◌≡◌, ◌≢◌, ℕ, ◌<◌, get_or, Some, None}
use Rattle.kb_geometry.specs.Capture.{cell_at}
use Rattle.kb_geometry.specs.declared.stone.Cell.TheVariants as cell
use Rattle.capture_board.proofs.board.captures.breathes.Given as goal

abbrev pub invariant-loop-next : goal.invariant-loop-next
invariant-loop-next l = (k : ℕ) → k < l.next-index → (q : ℕ) → get_or l.around k None ≡ Some q → cell_at l.cells q ≢ cell.Empty
