-- What is kept of a state, the text of one statement by it and where it leads, and a run so far.
use Rattle.std.specs.Prelude.{◌≡◌, ◌⊎◌, ℕ, ◌≤◌, List, [], ◌∷◌, ◌++◌, map, Option, Some, None}
use Rattle.std.specs.Option.{option_map_or}
use mathlib.Core.List.{IsPrefix}
use Rattle.kb_edges.specs.Faults.{RoseBy}
use Rattle.kb_edges.specs.Files.{File}
use Rattle.query_script.specs.declared.statement.Placed.{Placed}
use Rattle.query_script.specs.declared.statement.PlacedSearch.{PlacedSearch}
use Rattle.query_script.specs.declared.statement.Statement.{Statement}
use Rattle.query_script.specs.declared.statement.Statement.TheVariants as statement
use Rattle.hit_collectors.specs.Tallies.{BoxTally}
use Rattle.session_core.specs.Answers.{IsSearched, View}
use Rattle.session_core.specs.SessionState.{SessionState}
use Rattle.session_core.specs.Sources.{statement_of}
use Rattle.node_position.specs.Games.{Game}
use Rattle.version_publisher.specs.Contents.{items_in}
use Rattle.version_publisher.specs.declared.state.VersionState.{VersionState}
use Rattle.import_work.specs.Course.{ImportCourse, losses_of}
use Rattle.import_work.specs.declared.source.Source.{Source}
use Rattle.import_work.specs.declared.source.Source.TheVariants as source
use Rattle.session_core.specs.Lawful.{HasPrinted, IsPassed, Rules, State, last_of, waiting_text}
use Rattle.session_core.specs.ImportTexts.{import_line_text}
use Rattle.import_work.specs.Log.{games_of_segments}

-- what the code keeps of a state: the number and the games of the last version, and the report that
-- waits
pub record Kept : Type 0 where
  pub version : ℕ
  pub games : List Game
  pub waiting : Option (List ℕ)

-- nothing is imported yet
abbrev pub nothing_kept : Kept
nothing_kept = record { version = 0; games = []; waiting = None }

-- what is kept where this is the last version and this report waits
abbrev pub kept_at : VersionState Game → Option (List ℕ) → Kept
kept_at version waiting = record {
  version = version.number;
  games = items_in version.parts;
  waiting = waiting;
}

-- this is kept of the state, and its statements left this
pub record IsKeptOfState (s : State) (kept : Kept) (session : SessionState) : Type 0 where
  pub version : kept.version ≡ last_of s
  pub games : kept.games ≡ games_of_segments s.log
  pub waiting : kept.waiting ≡ s.waiting
  pub floor : s.floor ≤ last_of s
  pub session_is : s.session ≡ session

-- what is seen of the base in the last version
abbrev pub view_of : Kept → View
view_of kept = record { version = kept.version; games = kept.games }

-- the searches of a block, in order, each over what is seen of the base at its place of the list:
-- their texts, and what was left before them and behind them
abbrev pub AreAnsweredFrom : List View → List PlacedSearch → SessionState → List ℕ → SessionState →
    Type 0
AreAnsweredFrom [] [] session text after = (text ≡ []) × (after ≡ session)
AreAnsweredFrom [] (p ∷ ps) session text after = ⊥
AreAnsweredFrom (view ∷ views) [] session text after = ⊥
AreAnsweredFrom (view ∷ views) (p ∷ ps) session text after =
    (first : List ℕ) × (between : SessionState) × (rest : List ℕ)
    × IsSearched p.line view p.query p.filter session first between
    × AreAnsweredFrom views ps between rest after × (text ≡ first ++ rest)

-- all of them over the same
abbrev pub AreAnswered : View → List PlacedSearch → SessionState → List ℕ → SessionState → Type 0
AreAnswered view searches session text after =
    AreAnsweredFrom (map (λ (p : PlacedSearch). view) searches) searches session text after

-- the text of the report that waits, or nothing
abbrev pub kept_report : Kept → List ℕ
kept_report kept = option_map_or (λ report. report) kept.waiting []

-- the statement changes neither the base nor the report that waits
abbrev pub LeavesBase : Statement → Type 0
LeavesBase (statement.Import path) = ⊥
LeavesBase (statement.Make games start) = ⊥
LeavesBase statement.Wait = ⊥
LeavesBase other = Unit {0}

-- the text is that of the statement, which leaves this
abbrev pub IsTextTo : List File → Rules → State → ℕ → Statement → List ℕ → SessionState → Type 0
IsTextTo files rules s line (statement.Import path) text after =
    (text ≡ waiting_text s ++ import_line_text line (source.Under path)) × (after ≡ s.session)
IsTextTo files rules s line (statement.Make games start) text after =
    (text ≡ waiting_text s ++ import_line_text line (source.Made games start)) × (after ≡ s.session)
IsTextTo files rules s line other text after =
    (used : List ImportCourse) × (next : State)
    × IsPassed files rules s line other used text next × (next.session ≡ after)

-- the text is that of the statement in each state of which this is kept, and the statement leaves
-- this
abbrev pub IsTextByKept : Rules → Kept → SessionState → ℕ → Statement → List ℕ →
    SessionState → Type 0
IsTextByKept rules kept session line own text after =
    (files : List File) (s : State) → IsKeptOfState s kept session →
    IsTextTo files rules s line own text after

-- The statement was passed with this text: from each state of which one was kept it leads to one of
-- which the other is, by a course whose losses are at most the rise of the folder's count.
abbrev pub LeadsOn : List File → Rules → Kept → ℕ → Statement → List ℕ → Kept → ℕ → ℕ → Type 0
LeadsOn files rules kept line own text after faults_before faults_now =
    (session left : SessionState) (s : State) → IsKeptOfState s kept session →
    IsTextTo files rules s line own text left →
    (used : List ImportCourse) × (next : State) × IsKeptOfState next after left
    × IsPassed files rules s line own used text next
    × RoseBy (losses_of used) faults_before faults_now

-- the text of the statement is written, it leads on, and it leaves this
pub record PassesStatement (files : List File) (rules : Rules) (kept : Kept)
    (session : SessionState) (p : Placed) (after : Kept) (left : SessionState)
    (before : List ℕ) (written : Option (List ℕ)) (faults_before faults_now : ℕ) : Type 0 where
  pub text : List ℕ
  pub text_is : IsTextByKept rules kept session p.line p.statement text left
  pub written_is : written ≡ Some (before ++ text)
  pub leads : LeadsOn files rules kept p.line p.statement text after faults_before faults_now

-- it stands at this line
abbrev pub import_at : ℕ → Source → Placed
import_at line source = record { line = line; statement = statement_of source }

-- a statement that is no import was passed, under whatever rules: its text is written, it leads on,
-- and it leaves this
pub record PassesText (kept : Kept) (session : SessionState) (p : Placed) (after : Kept)
    (left : SessionState) (before : List ℕ) (written : Option (List ℕ)) : Type 0 where
  pub text : List ℕ
  pub text_is : (rules : Rules) → IsTextByKept rules kept session p.line p.statement text left
  pub written_is : written ≡ Some (before ++ text)
  pub leads : (rules : Rules) (files : List File) (faults : ℕ) →
      LeadsOn files rules kept p.line p.statement text after faults faults

-- a prefix of the text of the statement is written, or nothing
pub record StopsInStatement (rules : Rules) (kept : Kept) (session : SessionState) (p : Placed)
    (before : List ℕ) (written : Option (List ℕ)) : Type 0 where
  pub more : List ℕ
  pub prefix : (more ≡ [])
      ⊎ ((text : List ℕ) × (left : SessionState)
      × IsTextByKept rules kept session p.line p.statement text left × IsPrefix more text)
  pub written_is : written ≡ Some (before ++ more)

-- The text so far is what these statements print, where the boxes tell one thing at the start, by a
-- course whose losses are at most the rise of the folder's count; this is what is kept of the state
-- there, and what its statements left.
pub record HasRun (rules : Rules) (files : List File) (start : List BoxTally)
    (placed : List Placed) (kept : Kept) (session : SessionState) (before : List ℕ)
    (written : Option (List ℕ)) (faults_before faults_now : ℕ) : Type 0 where
  pub state : State
  pub is_kept : IsKeptOfState state kept session
  pub course : List ImportCourse
  pub text : List ℕ
  pub printed : HasPrinted files rules start course placed state text
  pub written_is : written ≡ Some (before ++ text)
  pub paid : RoseBy (losses_of course) faults_before faults_now
