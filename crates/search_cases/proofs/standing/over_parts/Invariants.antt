use Rattle.version_publisher.specs.Contents.{items_in}
use Rattle.search_cases.specs.Watching.{Covers}
use Rattle.search_cases.proofs.standing.over_parts.Given as goal

abbrev pub invariant-loop-part : goal.invariant-loop-part
invariant-loop-part g l = Covers l.watched.query l.watched.filter (items_in l.version.parts) l.watched.standing
