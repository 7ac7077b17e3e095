use Rattle.std.proofs.Common.{◌+◌, ◌<◌, ◌∙◌, length, refl, slice_index, arith}
use Rattle.std.proofs.lemmas.List.{get_or_default}
use Rattle.candidate_sieve.specs.Ordered.{no_pair}
use Rattle.candidate_sieve.proofs.OrderTold.{cut-all, cut-more, cut-start, cut-unknown, pair-below, pair-further}
use Rattle.candidate_sieve.proofs.order.SpanOrder.keep.Goals as goal

pub returns-in_default-clause-kept : goal.returns-in_default-clause-kept
returns-in_default-clause-kept c = λ i lt.
    let s = c.args.self.now in
    cut-unknown s.order c.in_default.is (s.base + i) s.pairs.now (length s.pairs.now) (slice_index c.args.words.now i)

pub loop-k-init : goal.loop-k-init
loop-k-init c = record {
  count = refl;
  kept = λ i lt. cut-start c.args.self.now.order (c.args.self.now.base + i) c.args.self.now.pairs.now (slice_index c.args.words.now i);
}

pub keep-requires : goal.keep-requires
keep-requires c =
    let s = c.args.self.now in
    let below = pair-below s.order c.in-Some.order c.in-Some.is s.base (length c.args.words.now) s.pairs.now c.requires c.loop-k.k c.loop-k-test.true in
    omega (arith, below.0, c.loop-k.invariant.count)

pub loop-k-preserved : goal.loop-k-preserved
loop-k-preserved c = record {
  count = c.keep.ensures.count ∙ c.loop-k.invariant.count;
  kept = λ i lt.
      let s = c.args.self.now in
      let inside : i < length c.loop-k.words = omega (arith, lt, c.loop-k.invariant.count) in
      cut-more s.order c.in-Some.order c.in-Some.is (s.base + i) s.pairs.now c.loop-k.k (slice_index c.args.words.now i) (slice_index c.loop-k.words i) (slice_index c.keep.new.words i) (c.loop-k.invariant.kept i lt) _ (get_or_default s.pairs.now c.loop-k.k no_pair _ c.loop-k-test.true)
      (λ g e. c.keep.ensures.part i g inside e)
      (λ g few e stood. c.keep.ensures.kept i g inside e (pair-further c.in-Some.order.now g s.base i _ _ stood));
}

pub returns-then-joined-eq0-clause-kept : goal.returns-then-joined-eq0-clause-kept
returns-then-joined-eq0-clause-kept c = λ i lt.
    let s = c.args.self.now in
    cut-all s.order (s.base + i) s.pairs.now c.loop-k.k (slice_index c.args.words.now i) (slice_index c.loop-k.words i) (omega (arith, c.loop-k-test.true)) (c.loop-k.invariant.kept i lt)

pub returns-clause-kept : goal.returns-clause-kept
returns-clause-kept c = λ i lt.
    let s = c.args.self.now in
    cut-all s.order (s.base + i) s.pairs.now c.loop-k.k (slice_index c.args.words.now i) (slice_index c.loop-k.words i) (omega (arith, c.loop-k.auto.k-end)) (c.loop-k.invariant.kept i lt)
