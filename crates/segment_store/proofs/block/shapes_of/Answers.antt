use Rattle.std.proofs.Common.{ap, map, subst, ◌∙◌, arith}
use Rattle.std.proofs.lemmas.List.{take_all}
use Rattle.std.specs.Arc.{arc_value}
use Rattle.std.specs.Prelude.{All}
use Rattle.game_tree.specs.Tree.{IsTree, Tree}
use Rattle.node_position.specs.Games.{Game}
use Rattle.segment_store.specs.BoardShapes.{HaveShapes}
use Rattle.segment_store.proofs.ShapesOfGames.{HaveShapes-more, trees-more}
use Rattle.segment_store.proofs.block.shapes_of.Goals as goal

pub loop-game-preserved : goal.loop-game-preserved
loop-game-preserved c = record {
  all =
      HaveShapes-more arc_value c.args.games.now c.loop-game.game-index c.game-item.result c.shape.result c.loop-game.shapes.items c.add_shape.new.shapes.items c.loop-game-test.true c.game-item.is
      (c.shape.ensures.value ∙ ap (λ t. t.shape) c.tree.ensures.value ∙ ap (λ g. g.tree.shape) c.deref.ensures) c.loop-game.invariant.all c.in_ok-add_shape.ensures.all;
  trees =
      trees-more arc_value c.args.games.now c.loop-game.game-index c.game-item.result c.loop-game-test.true c.game-item.is
      (subst (λ (g : Game). IsTree g.tree) c.deref.ensures c.tree.ensures.tree) c.loop-game.invariant.trees;
  different = c.in_ok-add_shape.ensures.different c.loop-game.invariant.different;
}

pub returns-clause-all : goal.returns-clause-all
returns-clause-all c =
    rw c.shrink_to_fit.ensures.items
    (subst (λ games. HaveShapes (map arc_value games) c.loop-game.shapes.items) (take_all c.loop-game.game-index c.args.games.now (omega (arith, c.loop-game-test.false))) c.loop-game.invariant.all)

pub returns-clause-trees : goal.returns-clause-trees
returns-clause-trees c =
    subst (λ games. All (λ (g : Game). IsTree g.tree) (map arc_value games)) (take_all c.loop-game.game-index c.args.games.now (omega (arith, c.loop-game-test.false))) c.loop-game.invariant.trees

pub returns-clause-different : goal.returns-clause-different
returns-clause-different c = rw c.shrink_to_fit.ensures.items c.loop-game.invariant.different
