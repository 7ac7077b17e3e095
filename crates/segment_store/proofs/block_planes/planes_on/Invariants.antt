use Rattle.std.proofs.Common.{map, take}
use Rattle.std.specs.Arc.{arc_value}
use Rattle.segment_store.specs.Planes.{ArePlanesFor}
use Rattle.segment_store.proofs.block_planes.planes_on.Given as goal

abbrev pub invariant-loop-game : goal.invariant-loop-game
invariant-loop-game l = ArePlanesFor l.fn.shape (map arc_value (take l.game-index l.games)) l.planes
