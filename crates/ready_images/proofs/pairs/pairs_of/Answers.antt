use Rattle.std.proofs.Common.{ℕ, ◌+◌, ◌∙◌, ap, arith, length}
use Rattle.std.proofs.lemmas.List.{length_push}
use Rattle.pattern_images.specs.ImageList.{grid_at}
use Rattle.ready_images.specs.Pairs.{IsPairIn}
use Rattle.ready_images.proofs.PairLists.{vecs-more}
use Rattle.ready_images.proofs.pairs.pairs_of.Goals as goal

pub loop-class-preserved : goal.loop-class-preserved
loop-class-preserved c =
    let images = c.args.images.now in
    let vecs = c.loop-class.lists.items in
    record {
      count = ap length c.in_ok-push.ensures.items ∙ length_push vecs c.in_ok-class_pairs.field-0 ∙ ap (λ (n : ℕ). n + 1) c.loop-class.invariant.count;
      each = vecs-more (λ (k : ℕ). IsPairIn images.shape (grid_at images.grids k)) vecs c.in_ok-class_pairs.field-0 c.push.new.self.items c.loop-class.class c.loop-class.invariant.count c.loop-class.invariant.each c.in_ok-push.ensures.items c.in_ok-class_pairs.ensures;
    }

pub returns-clause-each : goal.returns-clause-each
returns-clause-each c = λ k lt. c.loop-class.invariant.each k (omega (arith, lt, c.loop-class-test.false, c.loop-class.auto.class-end, c.class_count-class-end.ensures))
