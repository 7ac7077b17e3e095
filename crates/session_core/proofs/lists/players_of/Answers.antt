use Rattle.std.proofs.Common.{◌≡◌, ◌∙◌, ◌++◌, ◌+◌, [], ◌∷◌, List, ap, arith, sym, subst, take}
use Rattle.std.specs.Borrow.{Bor}
use Rattle.std.proofs.lemmas.List.{length-map, length-take-le, map-append, take_all, take_more}
use Rattle.info_filter.specs.Players.{ArePlayerRows, IsPlayersTable}
use Rattle.info_filter.proofs.OneTable.{room_for_game}
use Rattle.info_filter.proofs.TableRows.{no_rows}
use Rattle.node_position.specs.Games.{Game}
use Rattle.session_core.specs.Listing.{infos_of}
use Rattle.session_core.proofs.lists.players_of.Goals as goal

pub loop-game-init : goal.loop-game-init
loop-game-init c = subst (ArePlayerRows []) (sym c.new-players.ensures) no_rows

pub add-requires : goal.add-requires
add-requires c =
    let before = take c.loop-game.game-index c.args.games.now in
    let few = length-take-le c.loop-game.game-index c.args.games.now (omega (arith, c.loop-game-test.true)) in
    let same = length-map before (λ (g : Bor Game). g.now.tree.info) in
    room_for_game (infos_of before) c.loop-game.players c.loop-game.invariant (omega (arith, few, same, c.requires, c.loop-game-test.true))

pub loop-game-preserved : goal.loop-game-preserved
loop-game-preserved c =
    let games = c.args.games.now in
    let before = take c.loop-game.game-index games in
    let next : take (c.loop-game.game-index + 1) games ≡ before ++ c.game-item.result ∷ [] = take_more games c.loop-game.game-index c.game-item.result c.loop-game-test.true ∙ ap (λ (g : Bor Game). before ++ g ∷ []) (sym c.game-item.is) in
    let infos = ap infos_of next ∙ map-append (λ (g : Bor Game). g.now.tree.info) before (c.game-item.result ∷ []) ∙ ap (λ info. infos_of before ++ info ∷ []) (sym (c.info.ensures ∙ ap (λ t. t.info) c.tree.ensures.value)) in
    subst (λ games. IsPlayersTable games c.add.new.self) (sym infos) (c.in_ok-add.ensures.ok (infos_of before) c.loop-game.invariant)

pub returns : goal.returns
returns c = subst (λ (games : List (Bor Game)). IsPlayersTable (infos_of games) c.loop-game.players) (take_all c.loop-game.game-index c.args.games.now c.loop-game-test.false) c.loop-game.invariant
