-- Files that were found, and judged one after another by the counts of the base.
use Rattle.std.specs.Prelude.{◌≡◌, ℕ, List, [], ◌∷◌, ◌++◌, All, None, Some, IfSome, map}
use Rattle.std.specs.Arc.{arc_value}
use Rattle.std.specs.List.{AllZip, flat_map}
use Rattle.std.specs.declared.option.Option.{Option}
use Rattle.game_tree.specs.Tree.{Tree}
use Rattle.node_position.specs.Games.{Game}
use Rattle.import_work.specs.Course.{FileReport, games_from, trees_in}
use Rattle.import_work.specs.Found.{IsFoundInFile}
use Rattle.import_work.specs.Outcome.{IsOutcome, with_games}
use Rattle.import_work.specs.Reads.{FileText}
use Rattle.import_work.specs.declared.found.Found.{Found}
use Rattle.import_work.specs.declared.found.Found.TheVariants as found
use Rattle.import_work.specs.declared.found.FoundFile.{FoundFile}
use Rattle.import_work.specs.declared.found.FoundPiece.{FoundPiece}
use Rattle.import_work.specs.declared.outcome.Counts.{Counts}
use Rattle.import_work.specs.declared.outcome.FileOutcome.{FileOutcome}
use Rattle.import_work.specs.declared.outcome.FileOutcome.TheVariants as file

-- this was found in a file
abbrev pub IsFoundFile : FileText → FoundFile → Type 0
IsFoundFile text f = (f.name ≡ text.name) × IsFoundInFile text.name text.bytes f.found

-- this was found in files
abbrev pub AreFoundFiles : List FileText → List FoundFile → Type 0
AreFoundFiles texts files = AllZip IsFoundFile texts files

-- the games that were found in a file
abbrev pub games_found : Found → List Game
games_found found.Unread = []
games_found (found.Refused of at) = []
games_found (found.Games games nodes) = map arc_value games.items

-- the games that were found in files, in order
abbrev pub games_in_files : List FoundFile → List Game
games_in_files files = flat_map (λ (f : FoundFile). games_found f.found) files

-- where a piece has a segment, it has all games that were found in the piece's files
abbrev pub HasAllGames : FoundPiece → Type 0
HasAllGames piece = IfSome piece.games (λ (segment : List Game). segment ≡ games_in_files piece.files.items)

-- the files of pieces, in order
abbrev pub files_in : List FoundPiece → List FoundFile
files_in pieces = flat_map (λ (p : FoundPiece). p.files.items) pieces

-- this was found in files, in pieces
pub record AreFoundPieces (texts : List FileText) (pieces : List FoundPiece) : Type 0 where
  pub files : AreFoundFiles texts (files_in pieces)
  pub games : All HasAllGames pieces

-- what becomes of a file with these bytes, or of one that was not read
abbrev pub IsJudged : Counts → Option (List ℕ) → FileOutcome → List Tree → Type 0
IsJudged before None outcome trees = (outcome ≡ file.Unread) × (trees ≡ [])
IsJudged before (Some bytes) outcome trees = IsOutcome bytes before outcome trees

-- a file became this, and its games are added to these
pub record IsJudgedAs (text : FileText) (before after : Counts) (outcome : FileOutcome)
    (games more_games : List Game) : Type 0 where
  pub trees : List Tree
  pub judged : IsJudged before text.bytes outcome trees
  pub added : more_games ≡ games ++ games_from text.name 0 trees
  pub counted : after ≡ with_games before trees

-- files become this, one after another
pub data AreJudged (base : Counts) : List FileText → List FileReport → List Game → Type 0 where
  nothing : AreJudged base [] [] []
  one_more : {texts : List FileText} {reports : List FileReport} {games : List Game}
      (text : FileText) (outcome : FileOutcome) (trees : List Tree) →
      AreJudged base texts reports games →
      IsJudged (with_games base (trees_in games)) text.bytes outcome trees →
      AreJudged base (texts ++ text ∷ [])
      (reports ++ record { name = text.name; outcome = outcome } ∷ [])
      (games ++ games_from text.name 0 trees)

-- and their lines and games are added to these
pub record AreJudgedAs (texts : List FileText) (before after : Counts)
    (reports more_reports : List FileReport) (games more_games : List Game) : Type 0 where
  pub own_reports : List FileReport
  pub own_games : List Game
  pub judged : AreJudged before texts own_reports own_games
  pub reports_are : more_reports ≡ reports ++ own_reports
  pub games_are : more_games ≡ games ++ own_games
  pub counted : after ≡ with_games before (trees_in own_games)
