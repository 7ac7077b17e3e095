use Rattle.std.proofs.Common.{◌<◌, ap, arith, length, subst, sym}
use Rattle.std.proofs.lemmas.List.{length-map}
use Rattle.std.specs.Arc.{arc_value}
use Rattle.game_tree.specs.Tree.{IsTree}
use Rattle.node_position.specs.Games.{Game}
use Rattle.segment_store.proofs.ShapesOfGames.{tree-at}
use Rattle.segment_store.proofs.block.Block.get.Goals as goal

pub returns-clause-tree : goal.returns-clause-tree
returns-clause-tree c =
    let games = c.self.inside.games.items in
    let lt : c.args.at < length games = omega (arith, c.requires, length-map games arc_value, ap length c.self.view_is) in
    subst (λ (g : Game). IsTree g.tree) (sym c.deref.ensures) (tree-at arc_value games c.args.at c.index.result.now lt c.index.ensures c.self.invariant.5)

pub returns-clause-few : goal.returns-clause-few
returns-clause-few c = omega (arith, c.self.invariant.1, length-map c.self.inside.games.items arc_value, ap length c.self.view_is)
