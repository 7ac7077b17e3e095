use Rattle.std.proofs.Common.{arith, rules}
use Rattle.std.proofs.lemmas.Grind.{common_steps}
use Rattle.run_audit.proofs.BaseSteps.{added-fits}
use Rattle.run_audit.proofs.base.Base.add.Goals as goal

pub returns-clause-fits : goal.returns-clause-fits
returns-clause-fits c = added-fits c.args.self.now _ c.args.segment c.args.counts c.requires.fits c.requires.number c.requires.counted c.requires.few (first_of (search rules, grind (arith, common_steps)))
