use Rattle.std.proofs.Common.{◌∙◌, ap}
use Rattle.session_core.specs.Listing.{borrowed_games}
use Rattle.session_core.specs.Stores.{view_of}
use Rattle.session_core.proofs.FoundGames.{few_games}
use Rattle.session_core.proofs.ListTexts.{IsPlayersText-printed}
use Rattle.session_core.proofs.lists.append_players.Goals as goal

pub players_of-requires : goal.players_of-requires
players_of-requires c = few_games c.as_slice.result.now c.in_ok-games.games.items (view_of c.args.version.now).games c.game_count-count.result c.as_slice.ensures.value c.in_ok-games.ensures.value c.game_count-count.ensures.value c.game_count-count.ensures.most

pub returns-clause-ok : goal.returns-clause-ok
returns-clause-ok c =
    IsPlayersText-printed c.print_players.result c.args.line (view_of c.args.version.now) c.number.result c.game_count-count.result c.as_slice.result.now c.in_ok-players.players c.args.out.now.items c.print_players.new.out.items
    c.number.ensures c.game_count-count.ensures.value (ap borrowed_games c.as_slice.ensures.value ∙ c.in_ok-games.ensures.value) c.in_ok-players.ensures c.print_players.ensures.ok
