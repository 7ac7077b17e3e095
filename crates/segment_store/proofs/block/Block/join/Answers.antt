use Rattle.std.proofs.Common.{List, map, ap, ap₂, arith, sym, length, length-append, ◌∙◌, ◌++◌}
use Rattle.std.specs.Arc.{arc_value}
use Rattle.std.proofs.lemmas.List.{length-map}
use Rattle.node_position.specs.Games.{Game}
use Rattle.segment_store.proofs.GamesOfPlanes.{ArePlanesOf-made}
use Rattle.segment_store.proofs.block.Block.join.Goals as goal

pub joined_orders-requires-clause-games : goal.joined_orders-requires-clause-games
joined_orders-requires-clause-games c =
    ap (map arc_value) c.as_slice-5.ensures.value ∙ c.in_ok-games.ensures.games ∙ ap₂ (λ xs ys. map arc_value xs ++ map arc_value ys) c.as_slice.ensures.value c.as_slice-2.ensures.value ∙ ap₂ (λ (xs ys : List Game). xs ++ ys) c.a.view_is c.b.view_is

pub invariant_of-result : goal.invariant_of-result
invariant_of-result c =
    let games = c.in_ok-games.games.items in
    let have = rw c.as_slice-3.ensures.value at c.in_ok-shapes.ensures.all in
    let both = c.in_ok-games.ensures.games ∙ ap₂ (λ xs ys. map arc_value xs ++ map arc_value ys) c.as_slice.ensures.value c.as_slice-2.ensures.value ∙ ap₂ (λ (xs ys : List Game). xs ++ ys) c.a.view_is c.b.view_is in
    let made = rw (sym both) at (rw (c.as_slice-4.ensures.value) at c.in_ok-planes.ensures) in (
      omega (arith, c.in_ok-games.ensures.count, ap length c.as_slice.ensures.value, c.a.invariant.0),
      omega (arith, c.requires, sym (length-map games arc_value) ∙ ap length both ∙ length-append c.args.a.now c.args.b.now),
      have,
      ArePlanesOf-made c.in_ok-shapes.shapes.items (map arc_value games) c.in_ok-planes.planes.items have c.in_ok-shapes.ensures.different made,
      rw (sym both) at c.in_ok-orders.ensures,
      rw c.as_slice-3.ensures.value at c.in_ok-shapes.ensures.trees,
    )
