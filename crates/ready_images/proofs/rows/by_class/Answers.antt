use Rattle.std.proofs.Common.{◌<◌, ◌∙◌, ◌++◌, ◌∷◌, [], ap, arith, length, length-set, slice_set, subst}
use Rattle.ready_images.specs.Placing.{AreByClass}
use Rattle.ready_images.specs.Rows.{HasClass}
use Rattle.ready_images.proofs.FewPlacements.{few_placements, number-small}
use Rattle.ready_images.proofs.ClassLists.{by_class-more, by_class-start, list_at-read, list_at-set_other, list_at-set_same, lists_of}
use Rattle.ready_images.proofs.rows.by_class.Goals as goal

pub overflow_cast-i : goal.overflow_cast-i
overflow_cast-i c =
    let images = c.args.images.now in
    omega (arith, number-small images c.len-i-end.ensures.images c.loop-i.i (omega (arith, c.loop-i-test.true, c.len-i-end.ensures.value)))

pub loop-i-init : goal.loop-i-init
loop-i-init c = record {
  count = c.in_ok-lists.ensures.count ∙ c.class_count.ensures;
  each = by_class-start c.args.images.now (lists_of c.in_ok-lists.lists.items) c.in_ok-lists.ensures.empty;
}

pub loop-i-preserved : goal.loop-i-preserved
loop-i-preserved c =
    let images = c.args.images.now in
    let vecs = c.loop-i.lists.items in
    let at = c.class_of.result in
    let below : at < length vecs = omega (arith, c.class_of.ensures.in_range, c.loop-i.invariant.count) in
    let has : HasClass images c.loop-i.i at = record { in_range = c.class_of.ensures.in_range; cells = c.class_of.ensures.cells } in
    record {
      count = omega (arith, c.loop-i.invariant.count, length-set vecs at c.push.new.self);
      each = by_class-more images c.len-i-end.ensures.images.different c.loop-i.i at has (lists_of vecs) (lists_of (slice_set vecs at c.push.new.self)) c.loop-i.invariant.each
          (list_at-set_same vecs at c.push.new.self below ∙ c.in_ok-push.ensures.items ∙ ap (λ ls. ls ++ c.loop-i.i ∷ []) (list_at-read vecs at c.index_mut.result.now below c.index_mut.ensures.value))
          (list_at-set_other vecs at c.push.new.self);
    }

pub returns-clause-each : goal.returns-clause-each
returns-clause-each c = subst (λ n. AreByClass c.args.images.now n (lists_of c.loop-i.lists.items)) (omega (arith, c.loop-i-test.false, c.loop-i.auto.i-end, c.len-i-end.ensures.value)) c.loop-i.invariant.each

pub returns-clause-few : goal.returns-clause-few
returns-clause-few c = few_placements c.args.images.now c.len-i-end.ensures.images
