use Rattle.std.proofs.Common.{subst}
use Rattle.node_position.specs.Games.{Game}
use Rattle.search_engine.specs.KeptBlocks.{AreCornersTold}
use Rattle.search_engine.proofs.GamesSearched.{same_game}
use Rattle.search_engine.proofs.kept_games.corners_at.Goals as goal

pub returns : goal.returns
returns c game there =
    let same = same_game c.args.block.now c.args.at c.get.result.now game c.get.ensures.value there in
    subst (λ (g : Game). AreCornersTold g.tree c.corners.result.now) same (record {
      is_tree = c.get.ensures.tree;
      changes = c.corners.ensures.changes.0;
      are_changes = c.corners.ensures.changes.1;
      corners = c.corners.ensures.value;
    })
