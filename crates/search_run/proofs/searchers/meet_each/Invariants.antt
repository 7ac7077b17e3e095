use Rattle.search_run.specs.Seen.{HaveMet}
use Rattle.search_run.proofs.searchers.meet_each.Given as goal

abbrev pub invariant-loop-i : goal.invariant-loop-i
invariant-loop-i g l = HaveMet l.publisher.opening l.publisher.log l.fn.searchers l.searchers l.i
