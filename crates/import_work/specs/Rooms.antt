-- What is added to a base, and that there is room for it.
use Rattle.std.specs.Prelude.{◌≡◌, ◌≤◌, List, [], ◌++◌, length}
use Rattle.game_tree.specs.Tree.{Tree}
use Rattle.import_work.specs.declared.outcome.Counts.{Counts}
use Rattle.import_work.specs.declared.outcome.FileOutcome.{FileOutcome}
use Rattle.import_work.specs.declared.outcome.FileOutcome.TheVariants as file
use Rattle.node_position.specs.Games.{Game}
use Rattle.import_work.specs.Course.{trees_in}
use Rattle.import_work.specs.Outcome.{HasRoom, with_games}

-- Games are added only by an accepted file: so many, and there is room for them.
abbrev pub IsAdded : Counts → FileOutcome → List Tree → Type 0
IsAdded before (file.Accepted games) added = (games ≡ length added) × HasRoom before added
IsAdded before (file.Refused of at) added = added ≡ []
IsAdded before (file.Full games nodes) added = added ≡ []
IsAdded before file.Unread added = added ≡ []

-- these games are added to a base, and these are its counts before and after
abbrev pub AreAdded : Counts → Counts → List Tree → Type 0
AreAdded before after trees = after ≡ with_games before trees

-- a base may have so many games and nodes
abbrev pub AreCountsWithinLimits : Counts → Type 0
AreCountsWithinLimits counts = (counts.games ≤ 400000) × (counts.nodes ≤ 67108864)

-- more games are added to a base, and these are its counts before and after
pub record AddsGames (before after : Counts) (games more : List Game) : Type 0 where
  pub added : List Game
  pub pushed : more ≡ games ++ added
  pub counted : after ≡ with_games before (trees_in added)
