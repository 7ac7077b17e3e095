use Rattle.std.proofs.Common.{◌∙◌, arith, refl, subst}
use Rattle.import_work.specs.Imports.{IsStep}
use Rattle.import_segments.proofs.PushedSegments.{HasTaken-more, HasTaken-none, counted_then, few_then, number_then}
use Rattle.import_segments.proofs.taking.take_segments.Goals as goal

pub loop-segment-init : goal.loop-segment-init
loop-segment-init g c = record {
  same = refl;
  later = omega arith;
  number = c.requires.number;
  counted = c.requires.counted;
  few = c.requires.few;
  taken = HasTaken-none _ c.args.batch c.args.import.now c.args.version.now _;
}

pub loop-segment-preserved : goal.loop-segment-preserved
loop-segment-preserved g c =
    let h = c.loop-segment.invariant in
    let pushed = rw c.in_ok-part.ensures.ok at c.in_default-push.ensures in
    let step = subst (λ told. IsStep told c.args.batch c.loop-segment.import c.step.new.self c.in-Some.segment (g.F.Folder.faults c.loop-segment.folder) (g.F.Folder.faults c.step.new.folder)) h.same (rw c.in-Some.is at c.in_ok-segment.ensures.step) in record {
      same = c.step.ensures.same ∙ h.same;
      later = omega (arith, h.later, c.step.ensures.later);
      number = number_then _ c.args.batch _ _ c.in-Some.segment _ _ c.loop-segment.version c.push.new.self step h.counted h.few c.requires.some pushed.0 h.number;
      counted = counted_then _ c.args.batch _ _ c.in-Some.segment _ _ c.loop-segment.version c.push.new.self step h.counted h.few pushed.1;
      few = few_then _ c.args.batch _ _ c.in-Some.segment _ _ c.loop-segment.version c.push.new.self step h.counted h.few;
      taken = HasTaken-more _ c.args.batch _ _ c.in-Some.segment _ _ c.loop-segment.version c.push.new.self step h.counted h.few c.args.import.now c.args.version.now _ h.taken pushed.0 pushed.1;
    }
