-- What an importer has published of an import so far, and how it merges parts: definitions
-- of the private functions.
use Rattle.std.specs.Prelude.{◌≡◌, ◌≤◌, ℕ, List, [], ◌∷◌, ◌++◌, length}
use Rattle.std.specs.declared.option.Option.{Option}
use Rattle.kb_edges.specs.Files.{File}
use Rattle.node_position.specs.Games.{Game}
use Rattle.version_publisher.specs.declared.state.VersionState.{VersionState}
use Rattle.import_work.specs.Imports.{ImportState}
use Rattle.import_work.specs.Log.{Segment}
use Rattle.import_segments.specs.Merged.{with_part}
use Rattle.import_segments.specs.Stores.{HasTaken}

-- the version of a whole log
abbrev pub version_of : List Segment → VersionState Game
version_of log = record { number = length log; parts = log }

-- The import has given the segments by which the log has grown, at a time when the count of faults
-- was at most what it is now.
pub record HasPublished (told : Option (List File)) (batch : ℕ) (start : ImportState)
    (log_before log_now : List Segment) (first last : ℕ) : Type 0 where
  pub now : ImportState
  pub faults : ℕ
  pub taken : HasTaken told batch start now (version_of log_before) (version_of log_now) first faults
  pub later : faults ≤ last

-- The import has given all its segments, by which the log has grown.
pub record HasPublishedAll (told : Option (List File)) (batch : ℕ) (start now : ImportState)
    (log_before log_now : List Segment) (first last : ℕ) : Type 0 where
  pub taken : HasTaken told batch start now (version_of log_before) (version_of log_now) first last
  pub none : now.left ≡ []

-- the parts, the last first, of which the last came to the others as `with_part` says
abbrev pub with_last : List Segment → List Segment
with_last [] = []
with_last (part ∷ parts) = with_part parts part

-- The last part has at least as many games as the one before it, and these are the games of both.
pub record AreToMerge (parts : List Segment) (both : Segment) : Type 0 where
  pub front : List Segment
  pub before : Segment
  pub last : Segment
  pub parts_are : parts ≡ front ++ before ∷ last ∷ []
  pub no_fewer : length before ≤ length last
  pub both_are : both ≡ before ++ last
