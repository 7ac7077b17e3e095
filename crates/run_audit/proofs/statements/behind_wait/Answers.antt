use Rattle.std.proofs.Common.{arith, rules, subst}
use Rattle.std.proofs.lemmas.Grind.{common_steps}
use Rattle.run_audit.specs.Standing.{DepartsIn}
use Rattle.run_audit.proofs.Departures.{same_error}
use Rattle.run_audit.proofs.statements.behind_wait.Goals as goal

pub returns-in_err-rest-clause-departs : goal.returns-in_err-rest-clause-departs
returns-in_err-rest-clause-departs c = λ count is.
    subst (λ t. DepartsIn c.args.left.now t count) (first_of (search rules, grind (arith, common_steps)))
    (c.behind.ensures.departs count (same_error _ _ _ _ c.from_residual-in_err-rest.ensures.1 c.in_err-rest.was is))

pub returns-in_err-rest-clause-within : goal.returns-in_err-rest-clause-within
returns-in_err-rest-clause-within c = λ count is.
    c.behind.ensures.within count (same_error _ _ _ _ c.from_residual-in_err-rest.ensures.1 c.in_err-rest.was is)
