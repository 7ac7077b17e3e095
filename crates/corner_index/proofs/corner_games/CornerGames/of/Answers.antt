use Rattle.corner_index.proofs.JoinedEntries.{one_game-exact, one_game-ordered}
use Rattle.corner_index.proofs.corner_games.CornerGames.of.Goals as goal

pub invariant_of-result : goal.invariant_of-result
invariant_of-result c = rw (c.in_ok-of_one_game.ensures.keys, c.in_ok-of_one_game.ensures.games) (one_game-ordered c.args.keys.now c.requires)

pub returns : goal.returns
returns c = rw (c.in_ok-of_one_game.ensures.keys, c.in_ok-of_one_game.ensures.games) (one_game-exact c.args.keys.now)
