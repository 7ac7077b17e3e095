use Rattle.std.proofs.Common.{◌*◌}
use Rattle.kb_geometry.specs.Board.{cols_of}
use Rattle.ready_images.specs.StoredWants.{AreParted, grid_with}
use Rattle.ready_images.proofs.wanted.add_wants.Given as goal

-- the rows so far
abbrev pub invariant-loop-y : goal.invariant-loop-y
invariant-loop-y l = AreParted l.images.shape (grid_with l.size l.cells) (l.y * cols_of l.size) l.initial.lists.wants.items l.lists
