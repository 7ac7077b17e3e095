use Rattle.std.proofs.Common.{map, arith}
use Rattle.std.specs.Arc.{arc_value}
use Rattle.segment_store.proofs.GamesOfPlanes.{ArePlanesOf-made}
use Rattle.segment_store.proofs.block.Block.of.Goals as goal

pub invariant_of-result : goal.invariant_of-result
invariant_of-result c =
    let games = c.in_ok-games.games.items in
    let have = rw c.as_slice.ensures.value at c.in_ok-shapes.ensures.all in
    let made = rw (c.as_slice-2.ensures.value) at (rw (c.as_slice-3.ensures.value) at c.in_ok-planes.ensures) in (
      omega (arith, c.in_ok-games.ensures.count, c.requires.some),
      omega (arith, c.in_ok-games.ensures.count, c.requires.few),
      have,
      ArePlanesOf-made c.in_ok-shapes.shapes.items (map arc_value games) c.in_ok-planes.planes.items have c.in_ok-shapes.ensures.different made,
      rw c.as_slice-4.ensures.value at c.in_ok-orders.ensures,
      rw c.as_slice.ensures.value at c.in_ok-shapes.ensures.trees,
    )
