-- What a batch of files becomes.
use Rattle.std.specs.Prelude.{◌≡◌, ◌≢◌, ◌⊎◌, ◌≤◌, ℕ, suc, Bool, true, false, List, [], ◌∷◌, ◌++◌, Some, count_by, filter, map, sum_by}
use Rattle.std.specs.declared.option.Option.{Option}
use Rattle.kb_edges.specs.Faults.{Rose, RoseBy}
use Rattle.kb_edges.specs.Files.{File, HasFile}
use Rattle.kb_edges.specs.Told.{IfTold}
use Rattle.game_tree.specs.Tree.{Tree}
use Rattle.node_position.specs.Games.{Game}
use Rattle.import_work.specs.Course.{AreRead, FileReport, ImportFile, IsContent, games_from, games_of_files, names_of, reports_of, trees_in}
use Rattle.import_work.specs.Outcome.{IsOutcome, with_games}
use Rattle.import_work.specs.Rooms.{IsAdded}
use Rattle.import_work.specs.declared.batch.FileLine.{FileLine}
use Rattle.import_work.specs.declared.outcome.Counts.{Counts}
use Rattle.import_work.specs.declared.outcome.FileOutcome.{FileOutcome}
use Rattle.import_work.specs.declared.outcome.FileOutcome.TheVariants as file

-- what a line of a report says: the name of a file, and what became of it
abbrev pub line_report : FileLine → FileReport
line_report line = record { name = line.name; outcome = line.outcome }

abbrev pub line_reports : List FileLine → List FileReport
line_reports lines = map line_report lines

-- the names that lines tell, in order
abbrev pub names_in : List FileReport → List (List ℕ)
names_in reports = map (λ (r : FileReport). r.name) reports

-- whether a file wasn't read
abbrev pub is_unread : FileOutcome → Bool
is_unread file.Unread = true
is_unread (file.Accepted games) = false
is_unread (file.Refused of at) = false
is_unread (file.Full games nodes) = false

-- the names of the files that weren't read
abbrev pub unread_in : List FileReport → List (List ℕ)
unread_in reports = names_in (filter (λ (r : FileReport). is_unread r.outcome) reports)

-- whether there was no room for a file
abbrev pub is_full : FileOutcome → Bool
is_full (file.Full games nodes) = true
is_full (file.Accepted games) = false
is_full (file.Refused of at) = false
is_full file.Unread = false

-- for how many files the reports tell that there was no room
abbrev pub full_told : List FileReport → ℕ
full_told reports = count_by (λ (r : FileReport). is_full r.outcome) reports

-- how many games were added by a file with this outcome
abbrev pub games_added : FileOutcome → ℕ
games_added (file.Accepted games) = games
games_added (file.Refused of at) = 0
games_added (file.Full games nodes) = 0
games_added file.Unread = 0

-- a file with this outcome was refused, or there was no room for it, or it wasn't read
abbrev pub IsTurnedAway : FileOutcome → Type 0
IsTurnedAway (file.Accepted games) = ⊥
IsTurnedAway (file.Refused of at) = Unit {0}
IsTurnedAway (file.Full games nodes) = Unit {0}
IsTurnedAway file.Unread = Unit {0}

-- how many games the lines tell as added
abbrev pub games_told : List FileReport → ℕ
games_told reports = sum_by (λ (r : FileReport). games_added r.outcome) reports

-- The file of this name became this and added these trees, in a base with these counts, and these
-- are the folder's counts of faults before and after it. Where the folder tells its files, the
-- outcome of a file that was read is that of its bytes. It is unread only where the count of faults
-- rose, or the folder tells its files and none has this path and name.
pub record IsImportedFile (told : Option (List File)) (path name : List ℕ) (before : Counts)
    (faults_before faults_now : ℕ) (outcome : FileOutcome) (trees : List Tree) : Type 0 where
  pub found : IfTold told (λ all. outcome ≢ file.Unread →
      (bytes : List ℕ) × IsContent all path name bytes × IsOutcome bytes before outcome trees)
  pub unread : outcome ≡ file.Unread → Rose faults_before faults_now
      ⊎ ((files : List File) × (told ≡ Some files) × (¬ HasFile files path name))
  pub added : IsAdded before outcome trees
  pub later : faults_before ≤ faults_now

-- Files are imported one after another, each in its turn: in a base with the games of the files
-- before it, and with the count of faults where the file before it left it. The lines tell each, and
-- the games of all are added in order.
pub data AreImportedInTurn (told : Option (List File)) (path : List ℕ) (before : Counts)
    (faults_before : ℕ) : List FileReport → List Game → ℕ → Type 0 where
  nothing : AreImportedInTurn told path before faults_before [] [] faults_before
  one_more : {reports : List FileReport} {games : List Game} {faults : ℕ} (name : List ℕ)
      (faults_now : ℕ) (outcome : FileOutcome) (trees : List Tree) →
      AreImportedInTurn told path before faults_before reports games faults →
      IsImportedFile told path name (with_games before (trees_in games)) faults faults_now outcome
      trees →
      AreImportedInTurn told path before faults_before
      (reports ++ record { name = name; outcome = outcome } ∷ []) (games ++ games_from name 0 trees)
      faults_now

-- So many of these files were not read by a fault of the folder: all of them, but for some that the
-- folder, which tells its files, doesn't have.
pub data AreLost (told : Option (List File)) (path : List ℕ) : List (List ℕ) → ℕ → Type 0 where
  none : AreLost told path [] 0
  lost : {names : List (List ℕ)} {count : ℕ} (name : List ℕ) → AreLost told path names count →
      AreLost told path (names ++ name ∷ []) (suc count)
  absent : {names : List (List ℕ)} {count : ℕ} (name : List ℕ) (files : List File) →
      told ≡ Some files → ¬ HasFile files path name → AreLost told path names count →
      AreLost told path (names ++ name ∷ []) count

-- the count of faults rose by at least so many of these unread files as were lost
abbrev pub ArePaid : Option (List File) → List ℕ → List (List ℕ) → ℕ → ℕ → Type 0
ArePaid told path unread faults_before faults_now =
    (count : ℕ) × AreLost told path unread count × RoseBy count faults_before faults_now

-- The files of these names become this, one after another, in a base with these counts before them:
-- these are the lines of the report and the games that are added. Each was read in its turn, or lost
-- to a rise of the count of faults in its turn, or isn't there.
pub record IsBatchOf (all : List File) (path : List ℕ) (before : Counts) (names : List (List ℕ))
    (faults_before faults_now : ℕ) (reports : List FileReport) (games : List Game) : Type 0 where
  pub files : List ImportFile
  pub unread : List (List ℕ)
  pub read : AreRead all path before files unread
  pub named : names_of files ≡ names
  pub reports_are : reports_of files ≡ reports
  pub games_are : games_of_files files ≡ games
  pub in_turn : AreImportedInTurn (Some all) path before faults_before reports games faults_now
  pub paid : ArePaid (Some all) path unread faults_before faults_now
