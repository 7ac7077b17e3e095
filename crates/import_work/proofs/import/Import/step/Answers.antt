use Rattle.std.proofs.Common.{arith}
use Rattle.import_work.proofs.import.Import.step.Goals as goal

pub invariant_of-self : goal.invariant_of-self
invariant_of-self g c = record {
  kept = c.next_segment.ensures.kept;
  given = omega (arith, c.self.invariant.given, c.next_segment.ensures.passed);
  number = c.self.invariant.number;
}

pub returns-clause-step : goal.returns-clause-step
returns-clause-step g c =
    rw (← c.self.view_is) ((rw c.in-Some.is at c.in_ok-taken.ensures.step) c.self.inside.line c.self.inside.number c.self.inside.given)
