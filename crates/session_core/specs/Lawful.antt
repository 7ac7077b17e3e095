-- What a run of a script prints: where it stands, what each statement prints and where it leads,
-- and the lawful outputs.
use Rattle.std.specs.Prelude.{◌≡◌, ◌⊎◌, ℕ, ◌≤◌, max, Bool, IsTrue, List, [], ◌∷◌, ◌++◌, length, Option, Some, None}
use Rattle.std.specs.Option.{option_map_or}
use mathlib.Core.List.{IsPrefix}
use Rattle.kb_edges.specs.Files.{File}
use Rattle.query_script.specs.declared.statement.Placed.{Placed}
use Rattle.query_script.specs.declared.statement.PlacedSearch.{PlacedSearch}
use Rattle.query_script.specs.declared.statement.Statement.{Statement}
use Rattle.query_script.specs.declared.statement.Statement.TheVariants as statement
use Rattle.query_script.specs.Texts.{until_text, wait_text}
use Rattle.hit_collectors.specs.Tallies.{BoxTally}
use Rattle.session_core.specs.Answers.{IsAnswer, IsRetiredBy, IsSearched, IsWatchBegun, IsWatchMissing, IsWatchTaken, IsWatchTold, View, boxes_text}
use Rattle.session_core.specs.SessionState.{SessionState, new_session}
use Rattle.import_work.specs.Course.{Finding, ImportCourse, IsImported, trees_in}
use Rattle.import_work.specs.Log.{Segment, games_at, games_of_segments, segments_of}
use Rattle.import_work.specs.Outcome.{counts_of}
use Rattle.import_work.specs.declared.source.Source.{Source}
use Rattle.import_work.specs.declared.source.Source.TheVariants as source
use Rattle.session_core.specs.ImportTexts.{import_line_text, report_text}

-- How a run names versions: how many files make one, and whether each statement is done before the
-- next begins.
pub record Rules : Type 0 where
  pub batch : ℕ
  pub serial : Bool

-- Where a run stands: the log of the imports so far, the floor for the numbers that statements
-- name, the report of an import that isn't joined yet, and what its statements left.
pub record State : Type 0 where
  pub log : List Segment
  pub floor : ℕ
  pub waiting : Option (List ℕ)
  pub session : SessionState

-- the empty base, and boxes that tell this
abbrev pub at_start : List BoxTally → State
at_start boxes = record { log = []; floor = 0; waiting = None; session = new_session boxes }

-- the number of the last version
abbrev pub last_of : State → ℕ
last_of s = length s.log

-- what is seen of the base in the version with a number
abbrev pub view_at : State → ℕ → View
view_at s n = record { version = n; games = games_at s.log n }

-- the text of a report that waits, or nothing
abbrev pub waiting_text : State → List ℕ
waiting_text s = option_map_or (λ report. report) s.waiting []

-- a report that waits is printed: all that the last version has was seen
abbrev pub report_printed : State → State
report_printed s = record {
  log = s.log;
  floor = option_map_or (λ report. last_of s) s.waiting s.floor;
  waiting = None;
  session = s.session;
}

-- a version was named
abbrev pub with_floor : State → ℕ → State
with_floor s n = record {
  log = s.log;
  floor = max s.floor n;
  waiting = s.waiting;
  session = s.session;
}

-- its statements left this
abbrev pub with_session : State → SessionState → State
with_session s session = record {
  log = s.log;
  floor = s.floor;
  waiting = s.waiting;
  session = session;
}

-- The state after an import at this line that found this: its segments are in the log, and its
-- report waits, in place of that of an import before it.
abbrev pub after_import : Rules → State → ℕ → Finding → State
after_import rules s line finding =
    let log = s.log ++ segments_of rules.batch finding in record {
      log = log;
      floor = (report_printed s).floor;
      waiting = Some (report_text line finding (length log));
      session = s.session;
    }

-- a statement may name the version with this number: one from the floor to the last, and the last
-- alone in a serial run
pub record IsNamed (rules : Rules) (s : State) (n : ℕ) : Type 0 where
  pub from : s.floor ≤ n
  pub to : n ≤ last_of s
  pub serial : IsTrue rules.serial → n ≡ last_of s

-- a statement that awaits a version may name this one: it is at least as late, or the last
pub record IsAwaited (rules : Rules) (s : State) (awaited n : ℕ) : Type 0 where
  pub named : IsNamed rules s n
  pub reached : (awaited ≤ n) ⊎ (n ≡ last_of s)

-- The searches of a block, in order: their texts, the greatest of the numbers that they name, and
-- what was left before them and behind them. Each names a version by the floor before the block.
abbrev pub AreSearched : Rules → State → List PlacedSearch → SessionState → ℕ → List ℕ →
    SessionState → Type 0
AreSearched rules s [] session greatest text after =
    (greatest ≡ 0) × (text ≡ []) × (after ≡ session)
AreSearched rules s (p ∷ ps) session greatest text after =
    (n : ℕ) × (first : List ℕ) × (between : SessionState) × (behind : ℕ) × (rest : List ℕ)
    × IsNamed rules s n
    × IsSearched p.line (view_at s n) p.query p.filter session first between
    × AreSearched rules s ps between behind rest after
    × (greatest ≡ max n behind) × (text ≡ first ++ rest)

-- A statement that begins an import from this source prints this text and leads to the next state, by
-- an entry of the course. It prints a report that waits first.
abbrev pub OpensImport : List File → Rules → State → ℕ → Source → List ImportCourse → List ℕ →
    State → Type 0
OpensImport files rules s line source used text next =
    (entry : ImportCourse) × (finding : Finding) × (used ≡ entry ∷ [])
    × IsImported files source (counts_of (trees_in (games_of_segments s.log))) entry finding
    × (text ≡ waiting_text s ++ import_line_text line source)
    × (next ≡ after_import rules s line finding)

-- A statement by which this holds of what is seen of the base and of what is left names the version,
-- and leads to the next state.
abbrev pub NamesVersion : Rules → State → (View → SessionState → Type 0) → List ImportCourse →
    State → Type 0
NamesVersion rules s Leaves used next =
    (n : ℕ) × (after : SessionState) × IsNamed rules s n × Leaves (view_at s n) after
    × (used ≡ []) × (next ≡ with_session (with_floor s n) after)

-- A statement that leaves this names no version, and leads to the next state.
abbrev pub NamesNone : State → (SessionState → Type 0) → List ImportCourse → State → Type 0
NamesNone s Leaves used next =
    (after : SessionState) × Leaves after × (used ≡ []) × (next ≡ with_session s after)

-- A statement at a line prints this text and leads to the next state, by these entries of the
-- course. An import, also of made games, and a wait print a report that waits first. A statement
-- that is answered from the games of a version names it in its text. So does one that watches a
-- search, or tells a watched one, but where its text is that the name is taken, or that none is
-- watched under it: such a text names no version. Searches, also watched ones, and retirements alone
-- change what is left for the statements behind them.
abbrev pub IsPassed : List File → Rules → State → ℕ → Statement → List ImportCourse → List ℕ →
    State → Type 0
IsPassed files rules s line (statement.Import path) used text next =
    OpensImport files rules s line (source.Under path) used text next
IsPassed files rules s line (statement.Make games start) used text next =
    OpensImport files rules s line (source.Made games start) used text next
IsPassed files rules s line statement.Wait used text next =
    (used ≡ []) × (text ≡ waiting_text s ++ wait_text line (last_of s))
    × (next ≡ with_floor (report_printed s) (last_of s))
IsPassed files rules s line (statement.Until number) used text next =
    (n : ℕ) × IsAwaited rules s number n
    × (used ≡ []) × (text ≡ until_text line number n) × (next ≡ with_floor s n)
IsPassed files rules s line (statement.Together searches) used text next =
    (n : ℕ) × (after : SessionState) × AreSearched rules s searches s.session n text after
    × (used ≡ []) × (next ≡ with_session (with_floor s n) after)
IsPassed files rules s line statement.Report used text next =
    (text ≡ boxes_text line s.session.boxes) × (used ≡ []) × (next ≡ s)
IsPassed files rules s line (statement.Retire name) used text next =
    (after : SessionState) × IsRetiredBy line name s.session text after
    × (used ≡ []) × (next ≡ with_session s after)
IsPassed files rules s line (statement.Watch name query filter) used text next =
    NamesVersion rules s
    (λ view after. IsWatchBegun line view name query filter s.session text after) used next
    ⊎ NamesNone s (IsWatchTaken line name s.session text) used next
IsPassed files rules s line (statement.Watched name) used text next =
    NamesVersion rules s (λ view after. IsWatchTold line view name s.session text after) used next
    ⊎ NamesNone s (IsWatchMissing line name s.session text) used next
IsPassed files rules s line answered used text next =
    (n : ℕ) × (after : SessionState) × IsNamed rules s n
    × IsAnswer line (view_at s n) s.session answered text after
    × (used ≡ []) × (next ≡ with_session (with_floor s n) after)

-- After these statements, by this course, the session stands in this state and has printed this
-- text. The boxes told this at the start.
pub data HasPrinted (files : List File) (rules : Rules) (boxes : List BoxTally) :
    List ImportCourse → List Placed → State → List ℕ → Type 0 where
  nothing : HasPrinted files rules boxes [] [] (at_start boxes) []
  one_more : {course : List ImportCourse} {placed : List Placed} {s : State} {out : List ℕ}
      (used : List ImportCourse) (p : Placed) (next : State) (text : List ℕ) →
      HasPrinted files rules boxes course placed s out →
      IsPassed files rules s p.line p.statement used text next →
      HasPrinted files rules boxes (course ++ used) (placed ++ p ∷ []) next (out ++ text)

-- The lawful output of these statements, by this course, where the boxes tell this at the start: the
-- texts of all of them, and then the report of an import that isn't joined.
abbrev pub IsLawful : List File → Rules → List BoxTally → List ImportCourse → List Placed →
    List ℕ → Type 0
IsLawful files rules boxes course placed out =
    (s : State) × (text : List ℕ) × HasPrinted files rules boxes course placed s text
    × (out ≡ text ++ waiting_text s)

-- the text of a statement; that of an import is known before the folder is asked
abbrev pub IsStatementText : List File → Rules → State → ℕ → Statement → List ℕ → Type 0
IsStatementText files rules s line (statement.Import path) text =
    text ≡ waiting_text s ++ import_line_text line (source.Under path)
IsStatementText files rules s line (statement.Make games start) text =
    text ≡ waiting_text s ++ import_line_text line (source.Made games start)
IsStatementText files rules s line other text =
    (used : List ImportCourse) × (next : State) × IsPassed files rules s line other used text next

-- the text is a prefix of what is printed next: of the next statement's text, or of the closing
-- report
abbrev pub IsNextPrefix : List File → Rules → State → List Placed → List ℕ → Type 0
IsNextPrefix files rules s [] more = IsPrefix more (waiting_text s)
IsNextPrefix files rules s (p ∷ ps) more =
    (more ≡ [])
    ⊎ ((text : List ℕ) × IsStatementText files rules s p.line p.statement text × IsPrefix more text)

-- The text is begun: the texts of the first of these statements, by this course, and a prefix of
-- what comes next.
pub record IsBegun (files : List File) (rules : Rules) (boxes : List BoxTally)
    (course : List ImportCourse) (placed : List Placed) (out : List ℕ) : Type 0 where
  pub passed : List Placed
  pub left : List Placed
  pub state : State
  pub text : List ℕ
  pub more : List ℕ
  pub split : placed ≡ passed ++ left
  pub printed : HasPrinted files rules boxes course passed state text
  pub prefix : IsNextPrefix files rules state left more
  pub out_is : out ≡ text ++ more
