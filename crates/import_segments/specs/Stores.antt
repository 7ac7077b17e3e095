-- Segments that an import gives to a version.
use Rattle.std.specs.Prelude.{◌≡◌, ℕ, ◌+◌, ◌≤◌, ◌++◌, length, List}
use Rattle.std.specs.declared.option.Option.{Option}
use Rattle.kb_edges.specs.Files.{File}
use Rattle.node_position.specs.Games.{Game}
use Rattle.version_publisher.specs.declared.state.VersionState.{VersionState}
use Rattle.import_work.specs.Imports.{HasGiven, ImportState}
use Rattle.import_work.specs.Log.{Segment}
use Rattle.import_work.specs.declared.outcome.Counts.{Counts}

-- there are no more games than a base may have
abbrev pub HasFewGames : Counts → Type 0
HasFewGames counts = counts.games ≤ 400000

-- a version has these segments more, in order, and is numbered by as many
pub record IsPushed (before after : VersionState Game) (segments : List Segment) : Type 0 where
  pub number : after.number ≡ before.number + length segments
  pub parts : after.parts ≡ before.parts ++ segments

-- An import that stood so at first, and stands so now, has given segments by so many files each, and
-- a version has them more.
pub record HasTaken (told : Option (List File)) (batch : ℕ) (start now : ImportState)
    (before after : VersionState Game) (first last : ℕ) : Type 0 where
  pub segments : List Segment
  pub given : HasGiven told batch start first segments now last
  pub pushed : IsPushed before after segments
