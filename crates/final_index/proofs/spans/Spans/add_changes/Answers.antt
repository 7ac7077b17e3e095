use Rattle.std.proofs.Common.{arith}
use Rattle.kb_geometry.specs.declared.stone.Cell.TheVariants as cell
use Rattle.final_index.proofs.NotedSpans.{AreAllNoted-more, AreAllNoted-start}
use Rattle.final_index.proofs.spans.Spans.add_changes.Goals as goal

pub note-requires-clause-stone_from : goal.note-requires-clause-stone_from
note-requires-clause-stone_from c =
    omega (arith, c.requires.stone_from c.loop-change.change-index (record { point = 0; old = cell.Empty; new = cell.Empty }) c.loop-change-test.true, c.loop-change.invariant.from_count)

pub note-requires-clause-empty_below : goal.note-requires-clause-empty_below
note-requires-clause-empty_below c =
    omega (arith, c.requires.empty_below c.loop-change.change-index (record { point = 0; old = cell.Empty; new = cell.Empty }) c.loop-change-test.true, c.loop-change.invariant.below_count)

pub loop-change-init : goal.loop-change-init
loop-change-init c = AreAllNoted-start c.args.changes.now c.args.n c.args.end c.args.self.now

pub loop-change-preserved : goal.loop-change-preserved
loop-change-preserved c =
    AreAllNoted-more c.args.changes.now c.args.n c.args.end c.args.self.now c.loop-change.self c.note.new.self c.loop-change.change-index c.loop-change.invariant c.note.ensures
