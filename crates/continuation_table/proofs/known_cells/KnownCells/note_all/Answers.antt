use Rattle.continuation_table.proofs.Rebuilt.{AreNoted-next}
use Rattle.continuation_table.proofs.known_cells.KnownCells.note_all.Goals as goal

pub loop-k-preserved : goal.loop-k-preserved
loop-k-preserved c = AreNoted-next c.args.self.now.cells c.args.changes.now c.loop-k.k _ c.loop-k.self.cells c.note.new.self.cells _ c.loop-k-test.true c.requires c.loop-k.self.room c.loop-k.invariant c.note.ensures
