use Rattle.std.proofs.Common.{◌≡◌, ◌∙◌, ◌++◌, ◌+◌, [], ◌∷◌, ap, arith, map, sym, subst, take}
use Rattle.std.proofs.lemmas.List.{length-map, length-take-le, map-append, take_more}
use Rattle.game_tree.specs.Tree.{Tree}
use Rattle.info_filter.specs.Players.{ArePlayerRows, IsPlayersTable}
use Rattle.info_filter.proofs.OneTable.{room_for_game}
use Rattle.info_filter.proofs.TableRows.{no_rows}
use Rattle.sgf_cases.proofs.players.table_of.Goals as goal

pub loop-game-init : goal.loop-game-init
loop-game-init c = subst (ArePlayerRows []) (sym c.new-players.ensures) no_rows

pub add-requires : goal.add-requires
add-requires c =
    let before = take c.loop-game.game-index c.args.games.now in
    let few = length-take-le c.loop-game.game-index c.args.games.now (omega (arith, c.loop-game-test.true)) in
    let same = length-map before (λ (t : Tree). t.info) in
    room_for_game (map (λ (t : Tree). t.info) before) c.loop-game.players c.loop-game.invariant (omega (arith, few, same, c.requires, c.loop-game-test.true))

pub loop-game-preserved : goal.loop-game-preserved
loop-game-preserved c =
    let games = c.args.games.now in
    let before = take c.loop-game.game-index games in
    let next : take (c.loop-game.game-index + 1) games ≡ before ++ c.game-item.result ∷ [] = take_more games c.loop-game.game-index c.game-item.result c.loop-game-test.true ∙ ap (λ (t : Tree). before ++ t ∷ []) (sym c.game-item.is) in
    let infos = ap (map (λ (t : Tree). t.info)) next ∙ map-append (λ (t : Tree). t.info) before (c.game-item.result ∷ []) ∙ ap (λ info. map (λ (t : Tree). t.info) before ++ info ∷ []) (sym c.info.ensures) in
    subst (λ games. IsPlayersTable games c.add.new.self) (sym infos) (c.in_ok-add.ensures.ok (map (λ (t : Tree). t.info) before) c.loop-game.invariant)
