-- What is seen of a version that is kept.
use Rattle.node_position.specs.Games.{Game}
use Rattle.version_publisher.specs.Contents.{items_in}
use Rattle.version_publisher.specs.declared.state.VersionState.{VersionState}
use Rattle.session_core.specs.Answers.{View}

-- the number of a version, and the games of its parts, one part behind another
abbrev pub view_of : VersionState Game → View
view_of version = record { version = version.number; games = items_in version.parts }
