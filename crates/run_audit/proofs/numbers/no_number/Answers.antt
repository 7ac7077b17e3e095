use Rattle.std.proofs.Common.{◌≡◌, ◌∷◌, ◌++◌, arith, rules, subst}
use Rattle.std.specs.Fmt.{decimal}
use Rattle.std.proofs.lemmas.Grind.{common_steps}
use Rattle.run_audit.specs.Standing.{DepartsIn}
use Rattle.run_audit.proofs.Departures.{departs-longer, departs-number, departs-told, same_error}
use Rattle.run_audit.proofs.numbers.no_number.Goals as goal

pub returns-in_err-rest-clause-departs : goal.returns-in_err-rest-clause-departs
returns-in_err-rest-clause-departs c = λ count is none byte others ended.
    departs-longer c.args.left.now (decimal c.args.number) (byte ∷ others) count
    (subst (λ t. DepartsIn c.args.left.now t count) (first_of (search rules, grind (arith, common_steps)))
    (c.behind.ensures.departs count (same_error _ _ _ _ c.from_residual-in_err-rest.ensures.1 c.in_err-rest.was is)))

pub returns-clause-departs : goal.returns-clause-departs
returns-clause-departs c = λ count is none byte others ended.
    let begins : c.args.left.now ≡ decimal c.args.number ++ c.in_ok-rest.rest.now = first_of (search rules, grind (arith, common_steps)) in
    departs-told _ count is
    (departs-number c.args.left.now (decimal c.args.number) c.in_ok-rest.rest.now others byte begins
    (λ stands. none (record { behind = c.in_ok-rest.rest.now; begins = begins; ended = stands })) ended)
