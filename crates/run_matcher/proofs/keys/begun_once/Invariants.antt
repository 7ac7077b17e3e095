use Rattle.run_matcher.proofs.SortedKeys.{AreOnceTo}
use Rattle.run_matcher.proofs.keys.begun_once.Given as goal

-- the keys so far
abbrev pub invariant-loop-key : goal.invariant-loop-key
invariant-loop-key l = AreOnceTo l.keys l.key-index l.next l.found.items
