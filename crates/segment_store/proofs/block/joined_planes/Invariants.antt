use Rattle.std.proofs.Common.{◌++◌, take}
use Rattle.segment_store.specs.Planes.{AreMadeFor}
use Rattle.segment_store.proofs.block.joined_planes.Given as goal

abbrev pub invariant-loop-shape : goal.invariant-loop-shape
invariant-loop-shape l = AreMadeFor (take l.shape-index l.shapes) (l.a ++ l.b) l.planes.items
