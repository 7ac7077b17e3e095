-- What an audit keeps of a state of the run, and what stands next in a record.
use Rattle.std.specs.Prelude.{◌≡◌, ℕ, ◌+◌, ◌-◌, ◌≤◌, Bool, false, List, [], ◌∷◌, ◌++◌, length, take, drop, if◌then◌else◌, max, min, Option, Some, None, All}
use Rattle.std.specs.Char.{is_ascii_digit}
use Rattle.std.specs.Fmt.{decimal}
use Rattle.std.specs.Option.{option_map_or}
use Rattle.kb_edges.specs.Files.{File}
use Rattle.game_tree.specs.Tree.{IsTree}
use Rattle.node_position.specs.Games.{Game}
use Rattle.query_script.specs.declared.statement.Placed.{Placed}
use Rattle.version_publisher.specs.Contents.{items_in}
use Rattle.version_publisher.specs.declared.state.VersionState.{VersionState}
use Rattle.import_work.specs.Course.{ImportCourse, trees_in}
use Rattle.import_work.specs.Log.{Segment, games_at, games_of_segments}
use Rattle.import_work.specs.Outcome.{counts_of}
use Rattle.import_work.specs.declared.outcome.Counts.{Counts}
use Rattle.session_core.specs.Lawful.{Rules, State, last_of}
use Rattle.session_core.specs.SessionState.{SessionState}
use Rattle.session_core.specs.Watches.{WatchesFit}
use Rattle.run_audit.specs.Guided.{IsGuidedPass}
use Rattle.run_audit.specs.Verdict.{PartAt}

-- ---- what is kept of a state

-- What an audit keeps of a state: the version at the floor, in however many parts; the segments of the
-- log behind it; how many games and nodes the last version has; and the report that waits.
pub record Kept : Type 0 where
  pub held : VersionState Game
  pub ahead : List Segment
  pub counts : Counts
  pub waiting : Option (List ℕ)

abbrev pub kept_of : VersionState Game → List Segment → Counts → Option (List ℕ) → Kept
kept_of held ahead counts waiting = record {
  held = held;
  ahead = ahead;
  counts = counts;
  waiting = waiting;
}

-- nothing is imported yet
abbrev pub nothing_kept : Kept
nothing_kept = kept_of (record { number = 0; parts = [] }) [] (record { games = 0; nodes = 0 }) None

-- the number of the last version
abbrev pub kept_last : Kept → ℕ
kept_last kept = kept.held.number + length kept.ahead

-- the games of the last version
abbrev pub kept_games : Kept → List Game
kept_games kept = items_in kept.held.parts ++ items_in kept.ahead

-- the report that waits, or nothing
abbrev pub kept_report : Kept → List ℕ
kept_report kept = option_map_or (λ report. report) kept.waiting []

-- what is kept fits together: the counts are those of the last version, which has at most 400,000 games,
-- and its number is one of 63 bits
pub record FitsTogether (kept : Kept) : Type 0 where
  pub counted : kept.counts ≡ counts_of (trees_in (kept_games kept))
  pub few : kept.counts.games ≤ 400000
  pub number : kept_last kept ≤ 9000000000000000000

-- the watched searches of a session cover games of the version at the floor, and their hits are those
-- in these
abbrev pub FitsFloor : Kept → SessionState → Type 0
FitsFloor kept session = WatchesFit (items_in kept.held.parts) session

-- this is kept of the state, whose games are trees, and its statements left this
pub record IsKeptOf (s : State) (kept : Kept) (session : SessionState) : Type 0 where
  pub floor : kept.held.number ≡ s.floor
  pub games : items_in kept.held.parts ≡ games_at s.log s.floor
  pub ahead : kept.ahead ≡ drop s.floor s.log
  pub within : s.floor ≤ last_of s
  pub waiting : kept.waiting ≡ s.waiting
  pub session_is : s.session ≡ session
  pub trees : All (λ (g : Game). IsTree g.tree) (games_of_segments s.log)

-- The version has this number, and the games of so many segments of what is kept.
pub record IsVersionAt (kept : Kept) (number : ℕ) (version : VersionState Game) : Type 0 where
  pub number_is : version.number ≡ number
  pub games : items_in version.parts
      ≡ items_in kept.held.parts ++ items_in (take (number - kept.held.number) kept.ahead)

-- The floor is raised to this number, if it is greater: what is kept behind it.
pub record IsRaised (before : Kept) (number : ℕ) (after : Kept) : Type 0 where
  pub floor : after.held.number ≡ max before.held.number number
  pub held : IsVersionAt before after.held.number after.held
  pub ahead : after.ahead ≡ drop (number - before.held.number) before.ahead
  pub counts : after.counts ≡ before.counts
  pub waiting : after.waiting ≡ before.waiting

-- The report that waits was printed, if one waits: the floor is then the last version.
abbrev pub IsJoined : Kept → Kept → Type 0
IsJoined before after = joined before.waiting
  where
    joined : Option (List ℕ) → Type 0
    joined None = after ≡ before
    joined (Some report) = IsRaised (record before { waiting = None }) (kept_last before) after

-- ---- numbers

-- a number from the least to the last
pub record IsWithin (least last number : ℕ) : Type 0 where
  pub from : least ≤ number
  pub to : number ≤ last

-- the least number that a statement may name, where it awaits none
abbrev pub least_named : Bool → Kept → ℕ
least_named serial kept = if serial then kept_last kept else kept.held.number

-- the least number that a statement may name that awaits this one
abbrev pub least_awaited : Bool → Kept → ℕ → ℕ
least_awaited serial kept awaited =
    if serial then kept_last kept else max kept.held.number (min awaited (kept_last kept))

-- no digit stands first; perhaps nothing does
abbrev pub BeginsNoNumber : List ℕ → Type 0
BeginsNoNumber [] = Unit {0}
BeginsNoNumber (byte ∷ bytes) = is_ascii_digit byte ≡ false

-- ---- what stands next in a record

-- What is left of a record parts from a text that is to stand next, where so many of its bytes are left,
-- before that text ends.
pub record DepartsIn (left text : List ℕ) (count : ℕ) : Type 0 where
  pub within : count ≤ length left
  pub within_text : length left - count + 1 ≤ length text
  pub part : PartAt left text (length left - count)

-- What is left of a record parts, where so many of its bytes are left, from each text that begins with
-- the digits of this number and then a byte that is no digit.
abbrev pub DepartsInNumber : List ℕ → ℕ → ℕ → Type 0
DepartsInNumber left number count =
    (byte : ℕ) (others : List ℕ) → is_ascii_digit byte ≡ false →
    DepartsIn left (decimal number ++ byte ∷ others) count

-- From each state of which one is kept a statement is passed as the guided output has it: its text stands
-- next in what is left of a record, this is left behind it, and it leads to a state of which the other is
-- kept.
abbrev pub PassesGuided : List File → Rules → List ℕ → List ℕ → Placed → Kept → SessionState →
    List ℕ → Kept → SessionState → Type 0
PassesGuided files rules recorded left p kept session rest after leaves =
    (s : State) → IsKeptOf s kept session →
    (used : List ImportCourse) × (text : List ℕ) × (next : State) × (left ≡ text ++ rest)
    × IsGuidedPass files rules recorded s left p.line p.statement used text next
    × IsKeptOf next after leaves

-- From each state of which this is kept what is left of a record parts from the text of a statement as
-- the guided output has it, where so many of its bytes are left.
abbrev pub DepartsGuided : List File → Rules → List ℕ → List ℕ → Placed → Kept → SessionState → ℕ →
    Type 0
DepartsGuided files rules recorded left p kept session count =
    (s : State) → IsKeptOf s kept session → (used : List ImportCourse) (text : List ℕ) (next : State) →
    IsGuidedPass files rules recorded s left p.line p.statement used text next →
    DepartsIn left text count
