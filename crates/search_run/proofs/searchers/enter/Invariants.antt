use Rattle.std.proofs.Common.{◌≡◌}
use Rattle.search_run.proofs.searchers.enter.Given as goal

abbrev pub invariant-loop : goal.invariant-loop
invariant-loop g l =
    (goal.iterator-loop g).can_next l.iterator' × (goal.iterator-loop g).is_finite l.iterator' × (l.searcher.opening ≡ l.initial.searcher.opening) × (l.searcher.learned ≡ l.initial.searcher.learned) × (l.searcher.seen ≡ l.initial.searcher.seen)
