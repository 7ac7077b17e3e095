use Rattle.std.proofs.Common.{refl}
use Rattle.capture_board.proofs.change_list.changed_points.put.Goals as goal

pub returns-then-ne-clause-noted : goal.returns-then-ne-clause-noted
returns-then-ne-clause-noted c = λ base are. rw c.from-index.ensures (c.note.ensures base c.args.cells.now c.requires.on_board (rw c.from-index.ensures refl) are)
