use Rattle.std.proofs.Common.{map, take}
use Rattle.game_tree.specs.Tree.{Tree}
use Rattle.info_filter.specs.Players.{IsPlayersTable}
use Rattle.sgf_cases.proofs.players.table_of.Given as goal

abbrev pub invariant-loop-game : goal.invariant-loop-game
invariant-loop-game l = IsPlayersTable (map (λ (t : Tree). t.info) (take l.game-index l.games)) l.players
