use Rattle.std.proofs.Common.{◌≡◌, ◌+◌, ◌<◌, ◌∙◌, ap, arith, length, refl, set, subst}
use Rattle.std.specs.Prelude.{slice_index}
use Rattle.std.proofs.lemmas.List.{get_or-set_other, get_or-set_same, length-set}
use Rattle.opening_tree.specs.Keys.{AreLinked, bucket_at, bucket_in, hash_of}
use Rattle.opening_tree.proofs.KeyTables.{key_within, linked-more, linked-none}
use Rattle.opening_tree.proofs.keys.link_all.Goals as goal

pub loop-at-init : goal.loop-at-init
loop-at-init c = record {
  counted = refl;
  some = refl;
  linked = linked-none c.args.width c.args.words.now (length c.args.heads.now) c.args.nexts.now c.args.heads.now c.requires.none;
}

pub key_at-requires : goal.key_at-requires
key_at-requires c = omega (arith, c.requires.counted, key_within c.args.width c.loop-at.at (length c.args.nexts.now) c.loop-at-test.true)

pub loop-at-preserved : goal.loop-at-preserved
loop-at-preserved c =
    let at = c.loop-at.at in
    let before = c.loop-at.invariant in
    let nexts = c.loop-at.nexts in
    let heads = c.loop-at.heads in
    let bucket = c.bucket_in-bucket.result in
    let lt : at < length nexts = omega (arith, before.counted, c.loop-at-test.true) in
    let is : bucket ≡ bucket_at c.args.width c.args.words.now (length c.args.heads.now) at = c.bucket_in-bucket.ensures.value ∙ (λ i. bucket_in ((c.hash_of.ensures ∙ ap hash_of c.key_at.ensures) i) (before.some i)) in
    record {
      counted = length-set nexts at (slice_index heads bucket) ∙ before.counted;
      some = length-set heads bucket (at + 1) ∙ before.some;
      linked = linked-more c.args.width c.args.words.now (length c.args.heads.now) nexts heads at before.linked (set nexts at (slice_index heads bucket)) bucket (at + 1) is c.bucket_in-bucket.ensures.below before.some refl
          (λ k less. get_or-set_other nexts at k (slice_index heads bucket) 0 (λ e. omega (arith, e, less)))
          (get_or-set_same nexts at (slice_index heads bucket) 0 lt);
    }

pub returns-clause-linked : goal.returns-clause-linked
returns-clause-linked c =
    let all : c.loop-at.at ≡ length c.args.nexts.now = omega (arith, c.loop-at-test.false, c.loop-at.auto.at-end) in
    subst (λ n. AreLinked c.args.width c.args.words.now (length c.args.heads.now) c.loop-at.nexts c.loop-at.heads n) all c.loop-at.invariant.linked
