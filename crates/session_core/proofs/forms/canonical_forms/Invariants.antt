use Rattle.std.proofs.Common.{take}
use Rattle.session_core.specs.Listing.{AreFormsOf}
use Rattle.session_core.proofs.forms.canonical_forms.Given as goal

abbrev pub invariant-loop-game : goal.invariant-loop-game
invariant-loop-game l = AreFormsOf (take l.game-index l.games) l.forms.items
