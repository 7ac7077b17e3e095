use Rattle.std.proofs.Common.{rules, ◌≡◌, [], map, drop, sym, ap, subst, ◌∙◌}
use Rattle.std.specs.Arc.{arc_value}
use Rattle.version_publisher.specs.Contents.{IsEmptyOrAmong, IsReady}
use Rattle.version_publisher.specs.Replicas.{content_of, content_after}
use Rattle.version_publisher.proofs.RuleSteps.{empty_among}
use Rattle.version_publisher.proofs.ReadyStates.{ready_opened, ready_along}
use Rattle.version_publisher.proofs.publisher.Publisher.new.Goals as goal

pub invariant_of-result : goal.invariant_of-result
invariant_of-result g c =
    let items = g.P.Part.items in
    let w = c.args.writer in
    let empty = c.requires.empty in
    let none : c.new.result.items ≡ [] = search rules in (
      (c.requires.opening, subst (λ z. IsEmptyOrAmong z.log w.desk.place.me.0.client.published) (sym empty.1) (empty_among _)),
      subst (λ l. IsReady g.P.Part.MOST (content_of items w.desk.shown.value) (content_after items w.desk.shown.value (drop w.behind w.log.items)) (map (λ a. items (arc_value a)) c.new.result.items) l c.args.end.token.book) (sym empty.0)
          (ready_along _ _ _ _ _ _ _ _ _ (ready_opened g.P.Part.MOST c.args.end.token.book) empty.1 (ap (content_after items w.desk.shown.value) empty.2 ∙ empty.1) (ap (map (λ a. items (arc_value a))) none)),
    )
