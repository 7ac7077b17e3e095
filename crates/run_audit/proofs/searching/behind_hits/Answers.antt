use Rattle.std.proofs.Common.{arith, rules, subst}
use Rattle.std.proofs.lemmas.Grind.{common_steps}
use Rattle.std.specs.Slice.Iter.{chunks_rest}
use Rattle.run_audit.specs.Standing.{DepartsIn}
use Rattle.run_audit.proofs.Departures.{same_error}
use Rattle.run_audit.proofs.SearchSteps.{hits-depart, hits-end, hits-more, hits-start}
use Rattle.run_audit.proofs.searching.behind_hits.Goals as goal

pub loop-some-init : goal.loop-some-init
loop-some-init c = record {
  can_next = search rules;
  finite = tt;
  shorter = omega arith;
  so_far = hits-start c.args.hits.now _ c.args.left.now (first_of (search rules, grind (arith, common_steps)));
}

pub returns-clause-stands : goal.returns-clause-stands
returns-clause-stands c = hits-end c.args.hits.now (chunks_rest c.loop-some.some-iterator) c.args.left.now c.loop-some.left.now c.in-None.ensures.steps.1.0 c.loop-some.invariant.so_far

pub loop-some-preserved : goal.loop-some-preserved
loop-some-preserved c = record {
  can_next = search rules;
  finite = tt;
  shorter = omega (arith, c.in_ok-left.ensures.shorter, c.loop-some.invariant.shorter);
  so_far = hits-more c.args.hits.now (chunks_rest c.loop-some.some-iterator) c.in-Some.some.now (chunks_rest c.next.new.self) c.args.left.now c.loop-some.left.now c.in_ok-left.left.now c.loop-some.invariant.so_far c.in-Some.ensures.steps.1.0 (first_of (search rules, grind (arith, common_steps)));
}

pub returns-in_err-left-clause-departs : goal.returns-in_err-left-clause-departs
returns-in_err-left-clause-departs c = λ count is.
    hits-depart c.args.hits.now (chunks_rest c.loop-some.some-iterator) c.in-Some.some.now (chunks_rest c.next.new.self) c.args.left.now c.loop-some.left.now count c.loop-some.invariant.so_far c.in-Some.ensures.steps.1.0
    (subst (λ t. DepartsIn c.loop-some.left.now t count) (first_of (search rules, grind (arith, common_steps)))
    (c.behind.ensures.departs count (same_error _ _ _ _ c.from_residual-in_err-left.ensures.1 c.in_err-left.was is)))

pub returns-in_err-left-clause-within : goal.returns-in_err-left-clause-within
returns-in_err-left-clause-within c = λ count is.
    let here = c.behind.ensures.within count (same_error _ _ _ _ c.from_residual-in_err-left.ensures.1 c.in_err-left.was is) in
    omega (arith, here, c.loop-some.invariant.shorter)
