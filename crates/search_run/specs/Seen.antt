-- What the searchers of a base have seen of its log: definitions of the private functions.
use Rattle.std.specs.Prelude.{◌≡◌, ◌<◌, ◌≤◌, ℕ, List, All, get_or, length}
use mathlib.Core.List.{IsPrefix}
use Rattle.node_position.specs.Games.{Game}
use Rattle.version_publisher.specs.Contents.{BookName, items_in}
use Rattle.version_publisher.specs.declared.state.SearcherState.{SearcherState}
use Rattle.version_publisher.specs.declared.state.VersionState.{VersionState}
use Rattle.import_work.specs.Log.{Segment}

-- the version of this log: its number, and the games of its segments
pub record IsVersionOf (version : VersionState Game) (log : List Segment) : Type 0 where
  pub number : version.number ≡ length log
  pub games : items_in version.parts ≡ items_in log

-- all of these are searchers of this opening
abbrev pub AreOfOpening : BookName → List (SearcherState Game) → Type 0
AreOfOpening opening searchers =
    All (λ (s : SearcherState Game). s.opening ≡ opening) searchers

-- what each of these has seen is a prefix of this log
abbrev pub HaveSeenOf : List Segment → List (SearcherState Game) → Type 0
HaveSeenOf log searchers = All (λ (s : SearcherState Game). IsPrefix s.seen log) searchers

-- what the session's searcher and those of blocks have seen are prefixes of this log
pub record HaveSeen (own : SearcherState Game) (block : List (SearcherState Game))
    (log : List Segment) : Type 0 where
  pub own_seen : IsPrefix own.seen log
  pub block_seen : HaveSeenOf log block

-- A version that a searcher of a block found: it is one of a log that begins with what the session's
-- searcher has seen; and with it begins each log that begins so and of which those of the block have
-- seen no more.
pub record IsLookedAt (own : List Segment) (block : List (SearcherState Game))
    (version : VersionState Game) : Type 0 where
  pub seen : List Segment
  pub of : IsVersionOf version seen
  pub later : IsPrefix own seen
  pub known : (log : List Segment) → IsPrefix own log → HaveSeenOf log block → IsPrefix seen log

-- The first of these searchers have met a publisher with this log: what each had seen before is a
-- prefix of it. The others are as before.
pub record HaveMet (opening : BookName) (log : List Segment)
    (before now : List (SearcherState Game)) (count : ℕ) : Type 0 where
  pub same_length : length now ≡ length before
  pub met : (k : ℕ) (d : SearcherState Game) → k < count → k < length before →
      IsPrefix (get_or before k d).seen log
  pub opened : AreOfOpening opening now
  pub left : (k : ℕ) (d : SearcherState Game) → count ≤ k → get_or now k d ≡ get_or before k d
