use Rattle.segment_store.proofs.VersionGames.{game-more}
use Rattle.segment_store.proofs.version_games.add_block.Goals as goal

pub loop-at-preserved : goal.loop-at-preserved
loop-at-preserved c =
    game-more (λ g. g.now) c.args.block.now c.loop-at.at c.get.result c.args.games.now.items c.loop-at.games.items c.push.new.self.items
    c.get.ensures.value c.loop-at.invariant c.in_ok-push.ensures.items
