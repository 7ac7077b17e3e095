-- What an import finds: files of a folder that tells its files, and what was lost to faults on the
-- way, or made games.
use Rattle.std.specs.Prelude.{◌≡◌, ◌⊎◌, ◌↔◌, ◌+◌, ◌<◌, ◌≤◌, ℕ, Bool, true, false, cond, List, [], ◌∷◌, ◌++◌, codes, filter, length, map, take, Some, AllPairs, Contains, sum_by}
use Rattle.std.specs.List.{flat_map}
use Rattle.std.specs.Cmp.Lexicographic.{slice_cmp}
use Rattle.std.specs.Ordering.{nat_cmp}
use Rattle.std.specs.declared.cmp.Ordering.TheVariants.{Less}
use Rattle.kb_edges.specs.Files.{File, HasFile, HasPath, IsSgfName, content_of}
use Rattle.game_tree.specs.Tree.{Tree}
use Rattle.node_position.specs.Games.{Game}
use Rattle.made_games.specs.Made.{made_tree}
use Rattle.import_work.specs.declared.source.Source.{Source}
use Rattle.import_work.specs.declared.source.Source.TheVariants as source
use Rattle.import_work.specs.declared.outcome.FileOutcome.{FileOutcome}
use Rattle.import_work.specs.declared.outcome.FileOutcome.TheVariants as file
use Rattle.import_work.specs.declared.outcome.Counts.{Counts}
use Rattle.import_work.specs.Outcome.{IsAddedBy, IsOutcome, with_games}

-- what the report says of a file of an import: its name, and what became of it
pub record FileReport : Type 0 where
  pub name : List ℕ
  pub outcome : FileOutcome

-- a file of an import: what the report says of it, and the games that it adds
pub record ImportFile : Type 0 where
  pub report : FileReport
  pub games : List Game

-- the games of files, in order
abbrev pub games_of_files : List ImportFile → List Game
games_of_files files = flat_map (λ (f : ImportFile). f.games) files

-- what the report says of files, in order
abbrev pub reports_of : List ImportFile → List FileReport
reports_of files = map (λ (f : ImportFile). f.report) files

-- what an import found: no listing, too many names, its files in order, or made games in order, each
-- as a file of its own
pub data Finding : Type 0 where
  Unlisted : Finding
  TooMany : ℕ → Finding
  Files : List ImportFile → Finding
  Made : List ImportFile → Finding

-- What the course says of one import: whether it is unlisted although its path is there, and which
-- of its files are unread. Each of these is a loss. Of made games it says that nothing was lost. A
-- run's losses are at most the rise of the folder's count of faults, so that without a fault there
-- are none.
pub record ImportCourse : Type 0 where
  pub unlisted : Bool
  pub unread : List (List ℕ)

-- nothing was lost
abbrev pub nothing_lost : ImportCourse
nothing_lost = record { unlisted = false; unread = [] }

-- how much the course says was lost: unlisted imports and unread files
abbrev pub losses_of : List ImportCourse → ℕ
losses_of course = sum_by (λ (c : ImportCourse). cond c.unlisted 1 0 + length c.unread) course

-- These are the names of an import: those of the files under the path that end in `.sgf`, each
-- once, in byte order.
pub record AreNames (files : List File) (path : List ℕ) (names : List (List ℕ)) : Type 0 where
  pub each : (name : List ℕ) →
      Contains names name ↔ (HasFile files path name × IsSgfName name)
  pub ascending : AllPairs (λ x y. slice_cmp nat_cmp x y ≡ Less) names

-- The bytes of a file that count: of the first file of this path and name the first 16,777,217,
-- which is one past the limit of a file.
abbrev pub IsContent : List File → List ℕ → List ℕ → List ℕ → Type 0
IsContent files path name bytes =
    (whole : List ℕ) × (content_of files path name ≡ Some whole) × (bytes ≡ take 16777217 whole)

-- the games of a file, in order of the text; the first of these trees has this place in the file
abbrev pub games_from : List ℕ → ℕ → List Tree → List Game
games_from name place [] = []
games_from name place (tree ∷ trees) =
    record { file = name; place = place; tree = tree } ∷ games_from name (place + 1) trees

-- the name of the file of made games
abbrev pub made_name : List ℕ
made_name = codes "make"

-- the trees of games
abbrev pub trees_in : List Game → List Tree
trees_in games = map (λ (game : Game). game.tree) games

-- a file of this name with this outcome, which adds these trees
abbrev pub import_file : List ℕ → FileOutcome → List Tree → ImportFile
import_file name outcome trees = record {
  report = record { name = name; outcome = outcome };
  games = games_from name 0 trees;
}

-- What became of the files of an import, one after another, in a base with these counts before it,
-- and the names of the files that were not read. Each file is judged by its bytes and by the counts
-- of the base with the games of the files before it.
pub data AreRead (all : List File) (path : List ℕ) (before : Counts) : List ImportFile →
    List (List ℕ) → Type 0 where
  nothing : AreRead all path before [] []
  read : {files : List ImportFile} {unread : List (List ℕ)}
      (name bytes : List ℕ) (outcome : FileOutcome) (trees : List Tree) →
      AreRead all path before files unread →
      IsContent all path name bytes →
      IsOutcome bytes (with_games before (trees_in (games_of_files files))) outcome trees →
      AreRead all path before (files ++ import_file name outcome trees ∷ []) unread
  not_read : {files : List ImportFile} {unread : List (List ℕ)} (name : List ℕ) →
      AreRead all path before files unread →
      AreRead all path before (files ++ import_file name file.Unread [] ∷ []) (unread ++ name ∷ [])

-- a made game with this number, which has this outcome and adds these trees: a file of its own, in
-- which the game's number is its place
abbrev pub made_file : ℕ → FileOutcome → List Tree → ImportFile
made_file number outcome trees = record {
  report = record { name = made_name; outcome = outcome };
  games = games_from made_name number trees;
}

-- What became of made games from the one with the number `first` on, one after another, in a base
-- with these counts before them: each is added where there is room for it in the base with the games
-- before it. The first game of all begins with `start`.
pub data AreMade (start first : ℕ) (before : Counts) : List ImportFile → Type 0 where
  nothing : AreMade start first before []
  one_more : {files : List ImportFile} (outcome : FileOutcome) (trees : List Tree) →
      AreMade start first before files →
      IsAddedBy (with_games before (trees_in (games_of_files files)))
      (made_tree start (first + length files) ∷ []) outcome trees →
      AreMade start first before (files ++ made_file (first + length files) outcome trees ∷ [])

-- The import of this path is unlisted by this entry of the course: as a loss though its path is
-- there, or because it isn't there.
abbrev pub IsUnlisted : List File → List ℕ → ImportCourse → Type 0
IsUnlisted all path entry =
    (((entry.unlisted ≡ true) × HasPath all path)
    ⊎ ((entry.unlisted ≡ false) × (¬ HasPath all path))) × (entry.unread ≡ [])

-- the names of files
abbrev pub names_of : List ImportFile → List (List ℕ)
names_of files = map (λ (f : ImportFile). f.report.name) files

-- the import of this path has these names, 100,000 at most, and found these files under them
pub record FindsFiles (all : List File) (path : List ℕ) (before : Counts) (entry : ImportCourse)
    (files : List ImportFile) : Type 0 where
  pub path_there : HasPath all path
  pub names : AreNames all path (names_of files)
  pub few : length files ≤ 100000
  pub read : AreRead all path before files entry.unread
  pub listed : entry.unlisted ≡ false

-- the import of this path has so many names, more than 100,000
pub record HasTooMany (all : List File) (path : List ℕ) (count : ℕ) : Type 0 where
  pub names : List (List ℕ)
  pub path_there : HasPath all path
  pub are_names : AreNames all path names
  pub counted : count ≡ length names
  pub many : 100000 < count

-- so many made games, in a base with these counts, became these files
pub record HasMade (games start : ℕ) (before : Counts) (files : List ImportFile) : Type 0 where
  pub all : length files ≡ games
  pub made : AreMade start 0 before files

-- What an import from this source, in a base with these counts, finds in these files, by this entry
-- of the course.
abbrev pub IsImported : List File → Source → Counts → ImportCourse → Finding → Type 0
IsImported all (source.Under path) before entry Unlisted = IsUnlisted all path entry
IsImported all (source.Under path) before entry (TooMany count) =
    HasTooMany all path count × (entry ≡ nothing_lost)
IsImported all (source.Under path) before entry (Files files) =
    FindsFiles all path before entry files
IsImported all (source.Under path) before entry (Made files) = ⊥
IsImported all (source.Made games start) before entry Unlisted = ⊥
IsImported all (source.Made games start) before entry (TooMany count) = ⊥
IsImported all (source.Made games start) before entry (Files files) = ⊥
IsImported all (source.Made games start) before entry (Made files) =
    HasMade games start before files × (entry ≡ nothing_lost)

-- the names of the files that an import found
abbrev pub names_found : Finding → List (List ℕ)
names_found Unlisted = []
names_found (TooMany count) = []
names_found (Files files) = names_of files
names_found (Made files) = []

-- an import from this source has a path, which is there
abbrev pub HasItsPath : List File → Source → Type 0
HasItsPath all (source.Under path) = HasPath all path
HasItsPath all (source.Made games start) = ⊥

-- What an import finds where it is given what is lost: the import as a whole, if it has a path that
-- is there, or else those of its files whose names pass a test. Where its path isn't there, and of
-- made games, nothing is lost; nor where it isn't lost as a whole and has too many names.
pub record FindsBy (all : List File) (from : Source) (before : Counts) (lost : Bool)
    (is_lost : List ℕ → Bool) : Type 0 where
  pub entry : ImportCourse
  pub finding : Finding
  pub imported : IsImported all from before entry finding
  pub unlisted : (entry.unlisted ≡ true) ↔ ((lost ≡ true) × HasItsPath all from)
  pub unread : entry.unread ≡ filter is_lost (names_found finding)
