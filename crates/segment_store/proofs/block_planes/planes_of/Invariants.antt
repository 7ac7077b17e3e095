use Rattle.std.proofs.Common.{map, take}
use Rattle.std.specs.Arc.{arc_value}
use Rattle.segment_store.specs.Planes.{AreMadeFor}
use Rattle.segment_store.proofs.block_planes.planes_of.Given as goal

abbrev pub invariant-loop-shape : goal.invariant-loop-shape
invariant-loop-shape l = AreMadeFor (take l.shape-index l.shapes) (map arc_value l.games) l.planes.items
