use Rattle.std.proofs.Common.{map, take}
use Rattle.std.specs.Prelude.{All}
use Rattle.std.specs.Arc.{arc_value}
use Rattle.game_tree.specs.Tree.{IsTree}
use Rattle.node_position.specs.Games.{Game}
use Rattle.segment_store.specs.BoardShapes.{AreDifferent, HaveShapes}
use Rattle.segment_store.proofs.block.shapes_of.Given as goal

abbrev pub invariant-loop-game : goal.invariant-loop-game
invariant-loop-game l = record {
  all : HaveShapes (map arc_value (take l.game-index l.games)) l.shapes.items;
  trees : All (λ (g : Game). IsTree g.tree) (map arc_value (take l.game-index l.games));
  different : AreDifferent l.shapes.items;
}
