use Rattle.continuation_table.specs.declared.known_cells.TheConstants.{ROOM}
use Rattle.continuation_table.proofs.Rebuilt.{IsRebuilt-end, IsRebuilt-more, IsRebuilt-start, in_room-changes}
use Rattle.continuation_table.proofs.known_cells.KnownCells.at.Goals as goal

pub loop-here-init : goal.loop-here-init
loop-here-init c = IsRebuilt-start c.args.deltas.now c.args.node ROOM c.none-known.result.cells c.requires c.none-known.ensures

pub note_all-requires : goal.note_all-requires
note_all-requires c = in_room-changes c.args.deltas.now c.changes.ensures.deltas c.in-Some.n c.changes.result.now c.changes.ensures.value c.changes.ensures.changes

pub loop-here-preserved : goal.loop-here-preserved
loop-here-preserved c =
    IsRebuilt-more c.args.deltas.now c.changes.ensures.deltas c.in-Some.n c.changes.result.now c.changes.ensures.value c.changes.ensures.changes
    c.args.node c.loop-here.known.cells c.note_all.new.self.cells c.loop-here.here c.parent-here.result c.loop-here.invariant c.in-Some.is
    c.note_all.ensures c.parent-here.ensures.value c.parent-here.ensures.before

pub returns : goal.returns
returns c =
    IsRebuilt-end c.args.deltas.now c.args.node c.loop-here.known.cells c.loop-here.here c.loop-here.invariant c.in_default.is
