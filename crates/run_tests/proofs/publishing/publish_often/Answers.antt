use Rattle.std.proofs.Common.{arith, ◌≡◌, ◌+◌, ◌≤◌, ◌++◌, [], ◌∷◌, length, length-append, sym, subst, ◌∙◌}
use Rattle.std.specs.Arc.{arc_value}
use Rattle.version_publisher.specs.Contents.{items_in}
use Rattle.version_publisher.proofs.ReadyStates.{joined_append_fits}
use Rattle.run_tests.proofs.publishing.publish_often.Goals as goal

pub loop-i-preserved : goal.loop-i-preserved
loop-i-preserved g c =
    let next = c.loop-i.i + 1 in
    let whole = c.loop-i.publisher.log ++ c.loop-i.publisher.pending in
    let part = (arc_value c.args.part.now).all.items in
    let grown : c.publish_even.new.publisher.log ++ c.publish_even.new.publisher.pending ≡ whole ++ part ∷ [] = c.publish_even.ensures.log ∙ c.if-not-append_copy.ensures.log in
    let number : length (whole ++ part ∷ []) ≤ next = omega (arith, length-append whole (part ∷ []), c.loop-i.invariant.number) in
    let fits : length (items_in whole) + length part ≤ next = omega (arith, c.loop-i.invariant.room, c.requires.one) in record {
      same = (c.publish_even.ensures.same.0 ∙ (c.append_copy.ensures.same ∙ c.loop-i.invariant.same.0), c.publish_even.ensures.same.1 ∙ c.loop-i.invariant.same.1);
      number = subst (λ l. length l ≤ next) (sym grown) number;
      room = subst (λ l. length (items_in l) ≤ next) (sym grown) (joined_append_fits next whole part fits);
    }
