use Rattle.std.proofs.Common.{◌≡◌, ◌++◌, List, length, sym, ap, subst, arith}
use Rattle.std.specs.Arc.{arc_value}
use Rattle.node_position.specs.Games.{Game}
use Rattle.corner_index.specs.CornerGames.{Entry}
use Rattle.segment_store.specs.CornersOfGames.{AreCornersOfGames}
use Rattle.segment_store.proofs.CornersOfGames.{AreCornersOfGames-below, AreCornersOfGames-joined}
use Rattle.segment_store.proofs.segment.merge.Goals as goal

pub join-requires-clause-before : goal.join-requires-clause-before
join-requires-clause-before c = AreCornersOfGames-below c.args.a.now c.corner_index.result.now _ c.corner_index.ensures (omega (arith, c.game_count-first.ensures.value, ap length c.a.view_is))

pub join-requires-clause-fits : goal.join-requires-clause-fits
join-requires-clause-fits c = AreCornersOfGames-below c.args.b.now c.corner_index-2.result.now _ c.corner_index-2.ensures (omega (arith, c.game_count-first.ensures.value, ap length c.a.view_is, c.requires))

pub invariant_of-result : goal.invariant_of-result
invariant_of-result c =
    let first : length c.args.a.now ≡ c.game_count-first.result = omega (arith, c.game_count-first.ensures.value, ap length c.a.view_is) in
    let joined = AreCornersOfGames-joined c.args.a.now c.args.b.now c.corner_index.result.now c.corner_index-2.result.now c.corner_index.ensures c.corner_index-2.ensures c.in_ok-index.index c.game_count-first.result (sym first) c.in_ok-index.ensures.joined in
    let blocks : c.in_ok-blocks.blocks ≡ c.args.a.now ++ c.args.b.now = subst (λ (games : List Game). c.in_ok-blocks.blocks ≡ games ++ c.args.b.now) c.a.view_is (subst (λ (games : List Game). c.in_ok-blocks.blocks ≡ c.a.inside.blocks ++ games) c.b.view_is c.in_ok-blocks.ensures) in
    subst (λ (games : List Game). AreCornersOfGames games (arc_value c.in_ok-corner_index.corner_index)) (sym blocks)
    (subst (λ (index : List (List Entry)). AreCornersOfGames (c.args.a.now ++ c.args.b.now) index) (sym c.in_ok-corner_index.ensures.ok) joined)
