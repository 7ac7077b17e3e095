use Rattle.std.proofs.Common.{◌/◌, ◌<◌, ◌≤◌, List, length, map, sym, subst, arith, rules}
use Rattle.std.specs.Arc.{arc_value}
use Rattle.std.proofs.lemmas.List.{length-map}
use Rattle.std.proofs.lemmas.Result.{IfOk-weaker}
use Rattle.node_position.specs.Games.{Game}
use Rattle.segment_store.specs.CornersOfGames.{AreCornersOfGames}
use Rattle.segment_store.proofs.CornersOfGames.{AreCornersOfGames-below, AreCornersOfGames-joined, AreCornersOfGames-none, parts_joined}
use Rattle.segment_store.proofs.game_corners.+corner_index_of.Goals as goal

pub returns-in_default : goal.returns-in_default
returns-in_default t c = AreCornersOfGames-none (map arc_value c.args.games.now) c.empty.result (omega (arith, c.in_default.len_below, length-map c.args.games.now arc_value)) c.empty.ensures

pub corner_index_of-requires : goal.corner_index_of-requires
corner_index_of-requires t c =
    let smaller : length c.split_at.result.0.now < length c.args.games.now = omega (arith, c.split_at.ensures.front_len, c.in-len1-up.len_at_least) in
    search rules

pub corner_index_of-requires-2 : goal.corner_index_of-requires-2
corner_index_of-requires-2 t c =
    let more : 2 ≤ length c.args.games.now = grind arith in
    let smaller : length c.split_at.result.1.now < length c.args.games.now = omega (arith, c.split_at.ensures.back_len, more) in
    search rules

pub join-requires-clause-before : goal.join-requires-clause-before
join-requires-clause-before t c =
    AreCornersOfGames-below (map arc_value c.split_at.result.0.now) c.in_ok-a.a _ c.in_ok-a.ensures (omega (arith, length-map c.split_at.result.0.now arc_value))

pub join-requires-clause-fits : goal.join-requires-clause-fits
join-requires-clause-fits t c =
    AreCornersOfGames-below (map arc_value c.split_at.result.1.now) c.in_ok-b.b _ c.in_ok-b.ensures
    (omega (arith, length-map c.split_at.result.1.now arc_value, c.split_at.ensures.front_len, c.split_at.ensures.back_len, c.requires))

pub returns : goal.returns
returns t c =
    let before = c.split_at.result.0.now in
    let behind = c.split_at.result.1.now in
    let all = parts_joined arc_value c.args.games.now before behind (length c.args.games.now / 2) c.split_at.ensures.front c.split_at.ensures.back in
    IfOk-weaker c.join.result _ _ (λ index are. subst (λ (games : List Game). AreCornersOfGames games index) all
    (AreCornersOfGames-joined (map arc_value before) (map arc_value behind) c.in_ok-a.a c.in_ok-b.b c.in_ok-a.ensures c.in_ok-b.ensures index (length before) (sym (length-map before arc_value)) are)) c.join.ensures.joined
