use Rattle.std.proofs.Common.{subst, arith, below_more}
use Rattle.std.proofs.lemmas.List.{get_or_default}
use Rattle.ready_images.specs.declared.want.Want.{Want}
use Rattle.capture_index.specs.Stretches.{IsUnchangedAt}
use Rattle.ready_images.specs.Wants.{no_want}
use Rattle.capture_index.proofs.run_index.RunIndex.unchanged_to.Goals as goal

pub loop-want-preserved : goal.loop-want-preserved
loop-want-preserved c = record {
  more = c.next_run-to.ensures.more;
  most = omega (arith, c.loop-want.invariant.most, c.next_run-to.ensures.most);
  stays = λ k from below. below_more _ _ (c.loop-want.invariant.stays k from (omega (arith, below, c.next_run-to.ensures.most)))
      (subst (λ (w : Want). IsUnchangedAt c.args.self.now c.args.base w c.args.node k) (get_or_default c.args.wants.now c.loop-want.want-index _ no_want c.loop-want-test.true) (c.next_run-to.ensures.stays k from below));
}
