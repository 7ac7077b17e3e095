use Rattle.std.proofs.lemmas.Result.{IfOk-weaker}
use Rattle.segment_store.proofs.CornersOfGames.{AreCornersOfGames-one}
use Rattle.segment_store.proofs.game_corners.index_of_game.Goals as goal

pub returns : goal.returns
returns c =
    IfOk-weaker c.of_game.result _ _ (λ index is. AreCornersOfGames-one c.args.game.now c.corners.ensures.changes.0 c.corners.result.now index c.corners.ensures.changes.1 c.corners.ensures.value is) c.of_game.ensures
