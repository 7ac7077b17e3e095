use Rattle.std.proofs.Common.{◌-◌, length}
use Rattle.continuation_table.proofs.Rebuilt.{AreNoted}
use Rattle.continuation_table.proofs.known_cells.KnownCells.note_all.Given as goal

abbrev pub invariant-loop-k : goal.invariant-loop-k
invariant-loop-k l = AreNoted l.fn.self.cells l.changes (length l.changes - l.k) l.self.cells
