use Rattle.std.proofs.Common.{◌≡◌, ◌+◌, ◌∷◌, ◌++◌, [], ◌∙◌, ap, arith, length, length-append, refl, subst, sym}
use Rattle.import_work.specs.Imports.{IsStep}
use Rattle.import_segments.specs.Published.{version_of}
use Rattle.import_segments.proofs.MergedParts.{MergesEach-more, MergesEach-none, parts_stay}
use Rattle.import_segments.proofs.PushedSegments.{HasTaken-more, HasTaken-none, counted_then, few_then, number_then}
use Rattle.import_segments.proofs.publish.publish_segments.Goals as goal

pub loop-segment-init : goal.loop-segment-init
loop-segment-init g c = record {
  same = refl;
  later = omega arith;
  idle = c.requires.idle;
  opening = refl;
  number = c.requires.number;
  counted = c.requires.counted;
  few = c.requires.few;
  taken = HasTaken-none _ c.args.batch c.args.import.now (version_of c.args.publisher.now.log) _;
  parts = MergesEach-none c.args.publisher.now.log c.args.publisher.now.parts;
}

pub loop-segment-preserved : goal.loop-segment-preserved
loop-segment-preserved g c =
    let h = c.loop-segment.invariant in
    let before = version_of c.loop-segment.publisher.log in
    let after = version_of c.merge_parts.new.publisher.log in
    let done = c.in_ok-publish_segment.ensures.ok in
    let merged = c.in_ok-merge_parts.ensures in
    let grown : c.merge_parts.new.publisher.log ≡ c.loop-segment.publisher.log ++ c.in-Some.segment ∷ [] = merged.log ∙ done.1 in
    let number : length c.merge_parts.new.publisher.log ≡ length c.loop-segment.publisher.log + 1 = ap length grown ∙ length-append c.loop-segment.publisher.log (c.in-Some.segment ∷ []) in
    let step = subst (λ told. IsStep told c.args.batch c.loop-segment.import c.step.new.self c.in-Some.segment (g.F.Folder.faults c.loop-segment.folder) (g.F.Folder.faults c.step.new.folder)) h.same (rw c.in-Some.is at c.in_ok-segment.ensures.step) in record {
      same = c.step.ensures.same ∙ h.same;
      later = omega (arith, h.later, c.step.ensures.later);
      idle = merged.idle;
      opening = merged.opening ∙ c.in_ok-publish_segment.ensures.opening ∙ h.opening;
      number = number_then _ c.args.batch _ _ c.in-Some.segment _ _ before after step h.counted h.few c.requires.some number h.number;
      counted = counted_then _ c.args.batch _ _ c.in-Some.segment _ _ before after step h.counted h.few grown;
      few = few_then _ c.args.batch _ _ c.in-Some.segment _ _ before after step h.counted h.few;
      taken = HasTaken-more _ c.args.batch _ _ c.in-Some.segment _ _ before after step h.counted h.few c.args.import.now (version_of c.args.publisher.now.log) _ h.taken number grown;
      parts = MergesEach-more _ _ _ _ h.parts c.in-Some.segment c.merge_parts.new.publisher.log c.merge_parts.new.publisher.parts c.publish_segment.new.publisher.parts grown done.2 merged.parts;
    }

-- the segment is published, but parts can't be merged
pub returns-in_err-merge_parts-clause-published : goal.returns-in_err-merge_parts-clause-published
returns-in_err-merge_parts-clause-published g c =
    let h = c.loop-segment.invariant in
    let before = version_of c.loop-segment.publisher.log in
    let after = version_of c.merge_parts.new.publisher.log in
    let grown : c.merge_parts.new.publisher.log ≡ c.loop-segment.publisher.log ++ c.in-Some.segment ∷ [] = c.in_err-merge_parts.ensures.log ∙ c.in_ok-publish_segment.ensures.ok.1 in
    let number : length c.merge_parts.new.publisher.log ≡ length c.loop-segment.publisher.log + 1 = ap length grown ∙ length-append c.loop-segment.publisher.log (c.in-Some.segment ∷ []) in
    let step = subst (λ told. IsStep told c.args.batch c.loop-segment.import c.step.new.self c.in-Some.segment (g.F.Folder.faults c.loop-segment.folder) (g.F.Folder.faults c.step.new.folder)) h.same (rw c.in-Some.is at c.in_ok-segment.ensures.step) in record {
      now = c.step.new.self;
      faults = g.F.Folder.faults c.step.new.folder;
      taken = HasTaken-more _ c.args.batch _ _ c.in-Some.segment _ _ before after step h.counted h.few c.args.import.now (version_of c.args.publisher.now.log) _ h.taken number grown;
      later = omega arith;
    }

pub returns-in_err-segment-clause-as_before : goal.returns-in_err-segment-clause-as_before
returns-in_err-segment-clause-as_before g c = parts_stay _ _ _ _ c.loop-segment.invariant.parts

pub returns-in_err-publish_segment-clause-as_before : goal.returns-in_err-publish_segment-clause-as_before
returns-in_err-publish_segment-clause-as_before g c = λ same.
    let refused = c.in_err-publish_segment.ensures.refused in
    refused.1 ∙ parts_stay _ _ _ _ c.loop-segment.invariant.parts (sym refused.0 ∙ same)

pub returns-clause-as_before : goal.returns-clause-as_before
returns-clause-as_before g c = parts_stay _ _ _ _ c.loop-segment.invariant.parts
