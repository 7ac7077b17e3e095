-- Some files more of a batch.
use Rattle.std.specs.Prelude.{◌≡◌, ℕ, List, ◌++◌}
use Rattle.std.specs.declared.option.Option.{Option}
use Rattle.kb_edges.specs.Files.{File}
use Rattle.node_position.specs.Games.{Game}
use Rattle.import_work.specs.Batches.{AreImportedInTurn, names_in}
use Rattle.import_work.specs.Course.{FileReport, trees_in}
use Rattle.import_work.specs.Outcome.{with_games}
use Rattle.import_work.specs.declared.outcome.Counts.{Counts}

-- the files of these names are imported in turn, and their lines and games are added to these
pub record AreMoreFiles (told : Option (List File)) (path : List ℕ) (names : List (List ℕ))
    (before after : Counts) (faults_before faults_now : ℕ) (reports more_reports : List FileReport)
    (games more_games : List Game) : Type 0 where
  pub own_reports : List FileReport
  pub own_games : List Game
  pub in_turn :
      AreImportedInTurn told path before faults_before own_reports own_games faults_now
  pub named : names_in own_reports ≡ names
  pub reports_are : more_reports ≡ reports ++ own_reports
  pub games_are : more_games ≡ games ++ own_games
  pub counted : after ≡ with_games before (trees_in own_games)
