use Rattle.std.proofs.Common.{◌≤◌, ◌-◌, max}
use Rattle.run_audit.specs.Standing.{FitsTogether, IsRaised}
use Rattle.run_audit.proofs.base.Base.raise.Given as goal

-- the floor is raised so far
abbrev pub invariant-loop-self : goal.invariant-loop-self
invariant-loop-self l = record {
  fits : FitsTogether l.self;
  raised : IsRaised l.fn.self l.self.held.number l.self;
  low : l.fn.self.held.number ≤ l.self.held.number;
  high : l.self.held.number ≤ max l.fn.self.held.number l.number;
}

abbrev pub decreases-loop-self : goal.decreases-loop-self
decreases-loop-self l = l.number - l.self.held.number
