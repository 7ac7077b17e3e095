use Rattle.std.proofs.Common.{◌∙◌, ◌++◌, List, ap, append_assoc, length}
use Rattle.std.proofs.lemmas.Iterator.Consumers.{YieldsList-end, YieldsList-from_first}
use Rattle.std.specs.List.{flat_map}
use Rattle.info_filter.specs.Players.{TableRow}
use Rattle.info_filter.specs.Rows.{shown_row}
use Rattle.query_script.specs.Texts.{player_text, players_head}
use Rattle.query_script.proofs.PlayerRows.{flat_map-map}
use Rattle.query_script.proofs.list_text.append_players.Goals as goal

pub returns-clause-ok : goal.returns-clause-ok
returns-clause-ok c =
    let out = c.args.out.now.items in
    let head = players_head c.args.line c.args.version c.args.games (length c.args.players.now) in
    let rows = YieldsList-end (YieldsList-from_first shown_row (λ (rest : List TableRow). rest) c.args.players.now cc) c.loop-row.yielded _ c.loop-row.yielded_by _ _ c.in-None.is c.next.ensures.steps in
    c.loop-row.invariant
    ∙ append_assoc out head _
    ∙ ap (λ lines. out ++ (head ++ lines)) (flat_map-map player_text shown_row c.loop-row.yielded ∙ ap (flat_map player_text) rows.0)
