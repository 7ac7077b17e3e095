-- The log of a run: the segments that its imports add, and the versions that are made of them.
use Rattle.std.specs.Prelude.{ℕ, ◌+◌, ◌-◌, ◌/◌, List, [], length, map, take}
use Rattle.std.specs.Fork.{slice_chunk}
use Rattle.std.specs.List.{flat_map, range_with_len}
use Rattle.node_position.specs.Games.{Game}
use Rattle.import_work.specs.Course.{Files, Finding, ImportFile, Made, TooMany, Unlisted, games_of_files}

-- A segment: the games of the files of one batch. Each made game is a file of its own.
abbrev pub Segment : Type 0
Segment = List Game

-- the files cut into pieces of so many, the last one as long as what is left
abbrev pub batches : ℕ → List ImportFile → List (List ImportFile)
batches batch files =
    map (slice_chunk files batch) (range_with_len 0 ((length files + (batch - 1)) / batch))

-- the segments that an import adds: one for each piece of its files
abbrev pub segments_of : ℕ → Finding → List Segment
segments_of batch Unlisted = []
segments_of batch (TooMany names) = []
segments_of batch (Files files) = map games_of_files (batches batch files)
segments_of batch (Made files) = map games_of_files (batches batch files)

-- the games of segments, in order
abbrev pub games_of_segments : List Segment → List Game
games_of_segments segments = flat_map (λ (s : Segment). s) segments

-- The games of the version with a number: those of so many segments, the first ones. Version 0 has
-- none.
abbrev pub games_at : List Segment → ℕ → List Game
games_at log version = games_of_segments (take version log)
