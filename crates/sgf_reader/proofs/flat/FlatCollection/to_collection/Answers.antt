use Rattle.std.proofs.Common.{◌≡◌, get_or, ◌∷◌, ◌++◌, [], List, ◌∙◌, ap, ap₂}
use Rattle.std.proofs.lemmas.List.{take_all}
use Rattle.sgf_reader.specs.declared.collection.RawGame.{RawGame}
use Rattle.sgf_reader.proofs.NestedLists.{taken-more}
use Rattle.sgf_reader.proofs.flat.FlatCollection.to_collection.Goals as goal

pub loop-number-init : goal.loop-number-init
loop-number-init c = c.in_ok-games.ensures.items

pub loop-number-preserved : goal.loop-number-preserved
loop-number-preserved c =
    let here : c.game.result ≡ get_or c.args.self.now.games c.loop-number.number c.game.result = c.game.ensures in
    rw c.in_ok-push.ensures.items
    (ap₂ (λ (gs : List RawGame) (g : RawGame). gs ++ g ∷ []) c.loop-number.invariant c.in_ok-game.ensures
    ∙ taken-more _ _ c.game.result (rw c.game_count-number-end.ensures at c.loop-number-test.true) here)

pub returns : goal.returns
returns c =
    let all = take_all c.loop-number.number c.args.self.now.games (rw c.game_count-number-end.ensures at c.loop-number-test.false) in
    ap (λ (gs : List RawGame). record { games = gs }) (c.new.ensures ∙ c.loop-number.invariant ∙ all)
