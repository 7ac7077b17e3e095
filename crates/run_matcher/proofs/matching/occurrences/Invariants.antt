use Rattle.std.proofs.Common.{◌≡◌, ◌++◌, [], map, take}
use Rattle.run_matcher.specs.declared.begun.Begun.{Begun}
use Rattle.run_matcher.proofs.matching.occurrences.Given as goal

-- what begins so far
abbrev pub invariant-loop-one : goal.invariant-loop-one
invariant-loop-one l = l.found.items ≡ [] ++ map (λ (b : Begun). b.occurrence) (take l.one-index l.begun)
