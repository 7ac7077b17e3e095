use Rattle.std.proofs.Common.{sym, subst, arith}
use Rattle.sgf_reader.specs.declared.place.Place.TheVariants.{Outside}
use Rattle.sgf_reader.specs.Stays.{HasReadTo}
use Rattle.sgf_reader.specs.Reading.{View}
use Rattle.sgf_reader.proofs.ShortNodes.{HasReadTo-short, FailsIn-short}
use Rattle.sgf_reader.proofs.StepLemmas.{same_error}
use Rattle.sgf_reader.proofs.ReadTo.{HasReadTo-start, HasReadTo-more, HasReadTo-up_to, FailsIn-next}
use Rattle.sgf_reader.proofs.reader.read_bytes.Goals as goal

pub loop-at-init : goal.loop-at-init
loop-at-init c = record {
  within = omega arith;
  read = subst (λ (v : View). HasReadTo c.args.text.now 0 v Outside) (sym c.requires.fresh) (HasReadTo-start c.args.text.now);
}

pub returns-in_err-place-clause-fault : goal.returns-in_err-place-clause-fault
returns-in_err-place-clause-fault c = λ f is.
    let e = c.next_from-at.ensures in
    let here = HasReadTo-up_to _ _ _ _ _ c.loop-at.invariant.read e.least (omega arith) e.stays in
    FailsIn-short _ _ _ _ _ _ f here c.in-Some.ensures
    (c.read_node.ensures.fault f (same_error _ _ _ _ c.from_residual.ensures.1 c.in_err-place.was is))

pub loop-at-preserved-in-Some : goal.loop-at-preserved-in-Some
loop-at-preserved-in-Some c =
    let e = c.next_from-at.ensures in
    let here = HasReadTo-up_to _ _ _ _ _ c.loop-at.invariant.read e.least (omega arith) e.stays in
    let (place, view, few) = c.in_ok-place.ensures.ok in
    let short = c.in-Some.ensures in
    let below = short.within in
    record {
      within = omega arith;
      read = rw (place, view) (HasReadTo-short _ _ _ _ _ _ here short few c.requires.within);
    }

pub returns-in_err-place-2-clause-fault : goal.returns-in_err-place-2-clause-fault
returns-in_err-place-2-clause-fault c = λ f is.
    let e = c.next_from-at.ensures in
    let here = HasReadTo-up_to _ _ _ _ _ c.loop-at.invariant.read e.least (omega arith) e.stays in
    FailsIn-next _ _ _ _ _ f here c.if-at-end.true (c.step.ensures.fault f (same_error _ _ _ _ c.from_residual-in_err-place-2.ensures.1 c.in_err-place-2.was is))

pub loop-at-preserved-then-at-end : goal.loop-at-preserved-then-at-end
loop-at-preserved-then-at-end c =
    let e = c.next_from-at.ensures in
    let here = HasReadTo-up_to _ _ _ _ _ c.loop-at.invariant.read e.least (omega arith) e.stays in
    record { within = omega arith; read = HasReadTo-more _ _ _ _ _ _ here (omega arith) c.in_ok-place-2.ensures.ok }

pub loop-at-preserved : goal.loop-at-preserved
loop-at-preserved c =
    let e = c.next_from-at.ensures in
    record { within = omega arith; read = HasReadTo-up_to _ _ _ _ _ c.loop-at.invariant.read e.least (omega arith) e.stays }
