use Rattle.std.proofs.Common.{List, map, subst, sym}
use Rattle.std.specs.Arc.{arc_value}
use Rattle.node_position.specs.Games.{Game}
use Rattle.corner_index.specs.CornerGames.{Entry}
use Rattle.segment_store.specs.CornersOfGames.{AreCornersOfGames}
use Rattle.segment_store.proofs.segment.Segment.of.Goals as goal

pub invariant_of-result : goal.invariant_of-result
invariant_of-result c =
    subst (λ (games : List Game). AreCornersOfGames games (arc_value c.in_ok-corner_index.corner_index)) (sym c.in_ok-blocks.ensures)
    (subst (λ (index : List (List Entry)). AreCornersOfGames (map arc_value c.args.games.now) index) (sym c.in_ok-corner_index.ensures.ok) c.in_ok-index.ensures)
