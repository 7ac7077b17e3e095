use Rattle.std.proofs.Common.{◌≡◌, ◌+◌, ◌∙◌, ℕ, List, Global, Vec, [], ap, length, subst, sym}
use Rattle.std.proofs.lemmas.List.{length_push}
use Rattle.ready_images.specs.Placing.{list_at}
use Rattle.ready_images.proofs.ClassLists.{empty-more, lists_of}
use Rattle.ready_images.proofs.rows.no_lists.Goals as goal

pub loop-class-preserved : goal.loop-class-preserved
loop-class-preserved c =
    let vecs = c.loop-class.lists.items in
    record {
      count = ap length c.in_ok-push.ensures.items ∙ length_push vecs c.new.result ∙ ap (λ n. n + 1) c.loop-class.invariant.count;
      empty = subst (λ (vs : List (Vec ℕ Global)). (k : ℕ) → list_at (lists_of vs) k ≡ []) (sym c.in_ok-push.ensures.items) (empty-more vecs c.new.result c.new.ensures.items c.loop-class.invariant.empty);
    }
