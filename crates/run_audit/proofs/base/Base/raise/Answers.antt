use Rattle.std.proofs.Common.{ℕ, ◌+◌, arith, rules, subst}
use Rattle.std.proofs.lemmas.Grind.{common_steps}
use Rattle.run_audit.specs.Standing.{IsRaised}
use Rattle.run_audit.proofs.BaseSteps.{raised-end, raised-none, raised-trans}
use Rattle.run_audit.proofs.base.Base.raise.Goals as goal

pub loop-self-init : goal.loop-self-init
loop-self-init c = record {
  fits = c.requires.fits;
  raised = raised-none c.args.self.now;
  low = omega arith;
  high = omega arith;
}

pub loop-self-preserved : goal.loop-self-preserved
loop-self-preserved c =
    let h = c.loop-self.invariant in
    let once = c.in_ok-raise_once.ensures.raised in record {
      fits = c.in_ok-raise_once.ensures.fits;
      raised =
          subst (λ (n : ℕ). IsRaised c.args.self.now n c.raise_once.new.self) (omega (arith, once.floor))
          (raised-trans c.args.self.now c.loop-self.self c.raise_once.new.self c.loop-self.self.held.number (c.loop-self.self.held.number + 1) (omega arith) h.raised once);
      low = omega (arith, h.low, once.floor);
      high = first_of (search rules, grind (arith, common_steps));
    }

pub returns-clause-raised : goal.returns-clause-raised
returns-clause-raised c =
    let h = c.loop-self.invariant in
    raised-end c.args.self.now c.merge_parts.new.self c.loop-self.self.held.number c.args.number h.low h.high (first_of (search rules, grind (arith, common_steps)))
    (raised-trans c.args.self.now c.loop-self.self c.merge_parts.new.self c.loop-self.self.held.number c.loop-self.self.held.number (omega arith) h.raised c.in_ok-merge_parts.ensures.same)
