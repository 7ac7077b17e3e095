use Rattle.std.proofs.Common.{◌∙◌, ap, arith, map}
use Rattle.std.specs.Arc.{arc_value}
use Rattle.std.proofs.lemmas.List.{take_all}
use Rattle.import_work.proofs.FoundPieces.{shared-more, shared-room}
use Rattle.import_work.proofs.pieces.share_all.Goals as goal

pub add_shared-requires : goal.add_shared-requires
add_shared-requires c = shared-room arc_value c.args.own.now c.loop-game.game-index c.args.games.now c.loop-game.games c.loop-game-test.true c.loop-game.invariant c.requires

pub loop-game-preserved : goal.loop-game-preserved
loop-game-preserved c =
    shared-more arc_value c.args.own.now c.loop-game.game-index c.game-item.result c.args.games.now c.loop-game.games _ _ c.loop-game-test.true c.game-item.is c.loop-game.invariant c.in_ok-try_clone.ensures c.in_ok-add_shared.ensures
