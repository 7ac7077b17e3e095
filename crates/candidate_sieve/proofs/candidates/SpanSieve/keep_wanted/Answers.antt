use Rattle.std.proofs.Common.{◌≡◌, ℕ, ◌+◌, length, refl, ◌∙◌, slice_index, arith, subst}
use Rattle.std.proofs.lemmas.List.{get_or_default}
use Rattle.ready_images.specs.Wants.{no_want}
use Rattle.candidate_sieve.specs.BlockGames.{HaveEach}
use Rattle.candidate_sieve.proofs.GamesTold.{ever_empty-settled, each-kept, each-start}
use Rattle.candidate_sieve.proofs.candidates.SpanSieve.keep_wanted.Goals as goal

pub loop-k-init : goal.loop-k-init
loop-k-init c = record {
  count = refl;
  kept = λ i lt. each-start c.args.self.now.planes.now.games (c.args.self.now.base + i) c.args.self.now.wants.now (slice_index c.args.words.now i);
}

pub loop-k-preserved : goal.loop-k-preserved
loop-k-preserved c = record {
  count = c.keep_want.ensures.count ∙ c.loop-k.invariant.count;
  kept = λ i lt.
      each-kept c.args.self.now.planes.now.games c.args.self.now.base i c.args.self.now.wants.now (slice_index c.args.words.now i) c.loop-k.k (slice_index c.loop-k.words i) (slice_index c.keep_want.new.words i) _ (get_or_default c.args.self.now.wants.now c.loop-k.k no_want _ c.loop-k-test.true)
      (c.loop-k.invariant.kept i lt)
      (λ g below. c.keep_want.ensures.kept i g (omega (arith, c.loop-k.invariant.count, lt)) below);
}

pub returns-then-are_settled-clause-kept : goal.returns-then-are_settled-clause-kept
returns-then-are_settled-clause-kept c = λ k lt.
    ever_empty-settled c.args.self.now.planes.now c.args.self.now.ever_empty (c.args.self.now.base + k) c.args.self.now.wants.now (slice_index c.args.words.now k) c.loop-k.k (slice_index c.loop-k.words k) _ (get_or_default c.args.self.now.wants.now c.loop-k.k no_want _ c.loop-k-test.true) c.requires.sieve.ever_empty c.requires.sieve.in_order
    (λ w below. omega (arith, c.requires.sieve.on_board w no_want below, lt, c.requires.count)) (c.loop-k.invariant.kept k lt) c.loop-k-test.true
    (λ g e. c.are_settled.ensures c.if-are_settled.true k g (omega (arith, c.loop-k.invariant.count, lt)) e)

pub returns-clause-kept : goal.returns-clause-kept
returns-clause-kept c = λ k lt.
    let all : c.loop-k.k ≡ length c.args.self.now.wants.now = omega arith in
    subst (λ (n : ℕ). HaveEach c.args.self.now.planes.now.games (c.args.self.now.base + k) c.args.self.now.wants.now (slice_index c.args.words.now k) n (slice_index c.loop-k.words k)) all (c.loop-k.invariant.kept k lt)
