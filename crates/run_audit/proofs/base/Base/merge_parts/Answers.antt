use Rattle.std.proofs.Common.{arith, rules}
use Rattle.std.proofs.lemmas.Grind.{common_steps}
use Rattle.run_audit.proofs.BaseSteps.{raised-fits, raised-none, raised-parts}
use Rattle.run_audit.proofs.base.Base.merge_parts.Goals as goal

pub returns-then-saturating_sub-lt-PARTS_BEFORE_MERGE-clause-same : goal.returns-then-saturating_sub-lt-PARTS_BEFORE_MERGE-clause-same
returns-then-saturating_sub-lt-PARTS_BEFORE_MERGE-clause-same c = raised-none c.args.self.now

pub returns-clause-same : goal.returns-clause-same
returns-clause-same c = raised-parts c.args.self.now _ (first_of (search rules, grind (arith, common_steps))) (first_of (search rules, grind (arith, common_steps))) (first_of (search rules, grind (arith, common_steps))) (first_of (search rules, grind (arith, common_steps))) (first_of (search rules, grind (arith, common_steps)))

pub returns-clause-fits : goal.returns-clause-fits
returns-clause-fits c = raised-fits c.args.self.now _ c.args.self.now.held.number (omega arith) (returns-clause-same c) c.requires.fits
