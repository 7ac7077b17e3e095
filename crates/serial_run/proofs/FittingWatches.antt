-- What the watched searches of a session cover, in a run: it fits what is kept.
use Rattle.std.proofs.Common.{List, [], ◌∷◌, ℕ, subst, sym}
use Rattle.node_position.specs.Games.{Game}
use Rattle.query_script.specs.declared.statement.PlacedSearch.{PlacedSearch}
use Rattle.session_core.specs.Answers.{View}
use Rattle.session_core.specs.SessionState.{SessionState}
use Rattle.session_core.specs.Watches.{WatchesFit}
use Rattle.serial_run.specs.Steps.{AreAnsweredFrom}

-- the searches of a block watch nothing
pub block-fits : (games : List Game) (views : List View) (searches : List PlacedSearch) (session after : SessionState) (text : List ℕ) → WatchesFit games session → AreAnsweredFrom views searches session text after → WatchesFit games after
block-fits games [] [] session after text fit h = subst (WatchesFit games) (sym h.1) fit
block-fits games [] (p ∷ ps) session after text fit h = absurd h
block-fits games (view ∷ views) [] session after text fit h = absurd h
block-fits games (view ∷ views) (p ∷ ps) session after text fit h =
    block-fits games views ps h.1 after h.2 (subst (WatchesFit games) (sym h.3.fed) fit) h.4
