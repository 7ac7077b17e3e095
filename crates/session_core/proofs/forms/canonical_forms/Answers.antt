use Rattle.std.proofs.Common.{arith, rules, subst}
use Rattle.std.proofs.lemmas.List.{take_all}
use Rattle.session_core.specs.Listing.{AreFormsOf}
use Rattle.session_core.proofs.FoundGames.{forms-next}
use Rattle.session_core.proofs.forms.canonical_forms.Goals as goal

pub loop-game-preserved : goal.loop-game-preserved
loop-game-preserved c = forms-next c.args.games.now c.loop-game.game-index c.game-item.result c.loop-game.forms.items c.push.new.self.items _ c.loop-game-test.true c.game-item.is c.loop-game.invariant (search rules) c.in_ok-push.ensures.items

pub returns : goal.returns
returns c = subst (λ gs. AreFormsOf gs c.loop-game.forms.items) (take_all c.loop-game.game-index c.args.games.now (omega (arith, c.loop-game-test.false))) c.loop-game.invariant
