use Rattle.std.proofs.Common.{ap, map, subst, arith}
use Rattle.std.proofs.lemmas.List.{take_all}
use Rattle.std.specs.Arc.{arc_value}
use Rattle.segment_store.specs.Planes.{ArePlanesFor}
use Rattle.segment_store.proofs.GamesOfPlanes.{ArePlanesFor-more}
use Rattle.segment_store.proofs.block_planes.planes_on.Goals as goal

pub loop-game-preserved : goal.loop-game-preserved
loop-game-preserved c =
    ArePlanesFor-more arc_value c.args.games.now c.loop-game.game-index c.game-item.result c.args.shape c.loop-game.planes c.add_game.new.planes _ c.loop-game-test.true c.game-item.is
    (ap (λ g. g.tree) c.deref.ensures) c.loop-game.invariant c.add_game.ensures

pub returns : goal.returns
returns c =
    subst (λ games. ArePlanesFor c.args.shape (map arc_value games) c.loop-game.planes) (take_all c.loop-game.game-index c.args.games.now (omega (arith, c.loop-game-test.false))) c.loop-game.invariant
