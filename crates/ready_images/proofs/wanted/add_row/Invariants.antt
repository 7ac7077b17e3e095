use Rattle.std.proofs.Common.{◌+◌, ◌*◌}
use Rattle.kb_geometry.specs.Board.{cols_of}
use Rattle.ready_images.specs.StoredWants.{ArePartedOn, grid_with}
use Rattle.ready_images.proofs.wanted.add_row.Given as goal

-- the cells so far
abbrev pub invariant-loop-x : goal.invariant-loop-x
invariant-loop-x l = ArePartedOn l.fn.shape (grid_with l.fn.size l.cells) (l.y * cols_of l.fn.size) (l.y * cols_of l.fn.size + l.x) l.fn.lists l.lists
