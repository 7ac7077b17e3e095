use Rattle.search_cases.specs.Watching.{Covers}
use Rattle.search_cases.proofs.standing.over_merged.Given as goal

abbrev pub invariant-loop-part : goal.invariant-loop-part
invariant-loop-part g l = Covers l.watched.query l.watched.filter l.whole l.watched.standing
