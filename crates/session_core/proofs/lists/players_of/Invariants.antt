use Rattle.std.proofs.Common.{take}
use Rattle.info_filter.specs.Players.{IsPlayersTable}
use Rattle.session_core.specs.Listing.{infos_of}
use Rattle.session_core.proofs.lists.players_of.Given as goal

abbrev pub invariant-loop-game : goal.invariant-loop-game
invariant-loop-game l = IsPlayersTable (infos_of (take l.game-index l.games)) l.players
