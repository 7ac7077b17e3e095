use Rattle.std.proofs.Common.{◌≡◌, ◌++◌, length}
use Rattle.std.specs.List.{flat_map}
use Rattle.info_filter.specs.declared.players.PlayerRow.{PlayerRow}
use Rattle.info_filter.specs.Rows.{shown_row}
use Rattle.query_script.specs.Texts.{player_text, players_head}
use Rattle.query_script.proofs.list_text.append_players.Given as goal

abbrev pub invariant-loop-row : goal.invariant-loop-row
invariant-loop-row l =
    l.out.items ≡ (l.fn.out.items ++ players_head l.line l.version l.games (length l.players)) ++ flat_map (λ (row : PlayerRow). player_text (shown_row row)) l.yielded
