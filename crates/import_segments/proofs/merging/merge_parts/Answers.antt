use Rattle.std.proofs.Common.{ap, arith, length, reverse, ◌∙◌}
use Rattle.import_segments.specs.Published.{AreToMerge, with_last}
use Rattle.import_segments.proofs.MergedParts.{joined_is, merge_leads, merge_published, one_fewer}
use Rattle.import_segments.proofs.merging.merge_parts.Goals as goal

pub merge_last-requires-clause-items : goal.merge_last-requires-clause-items
merge_last-requires-clause-items g c κs =
    let to_merge : AreToMerge c.loop-both.publisher.parts c.in-Some.both.value = rw c.in-Some.is at c.in_ok-both.ensures in
    joined_is c.loop-both.publisher.parts c.in-Some.both.value to_merge

pub loop-both-smaller : goal.loop-both-smaller
loop-both-smaller g c =
    let to_merge : AreToMerge c.loop-both.publisher.parts c.in-Some.both.value = rw c.in-Some.is at c.in_ok-both.ensures in
    let done = merge_published c.loop-both.publisher c.merge_last.new.self c.publish.new.self c.in-Some.both.value c.loop-both.invariant.idle c.in_default-merge_last.ensures.merged c.in_ok-_receipt.ensures.0 in
    omega (arith, ap length done.parts, one_fewer c.loop-both.publisher.parts c.in-Some.both.value to_merge)

pub loop-both-preserved : goal.loop-both-preserved
loop-both-preserved g c =
    let h = c.loop-both.invariant in
    let to_merge : AreToMerge c.loop-both.publisher.parts c.in-Some.both.value = rw c.in-Some.is at c.in_ok-both.ensures in
    let done = merge_published c.loop-both.publisher c.merge_last.new.self c.publish.new.self c.in-Some.both.value h.idle c.in_default-merge_last.ensures.merged c.in_ok-_receipt.ensures.0 in record {
      idle = done.idle;
      log = done.log ∙ h.log;
      opening = done.opening ∙ h.opening;
      parts =
          ap (λ ps. with_last (reverse ps)) done.parts
          ∙ merge_leads c.loop-both.publisher.parts c.in-Some.both.value to_merge
          ∙ h.parts;
    }
