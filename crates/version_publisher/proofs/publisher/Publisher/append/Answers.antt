use Rattle.std.proofs.Common.{rules, arith, ◌≡◌, ◌+◌, ◌≤◌, [], ◌∷◌, ◌++◌, length, map, sym, ap, subst, ◌∙◌}
use Rattle.std.proofs.lemmas.Grind.{common_steps}
use Rattle.std.proofs.lemmas.List.{map-append}
use Rattle.std.specs.Arc.{arc_value}
use Rattle.version_publisher.specs.Contents.{items_in, book_name_of}
use Rattle.version_publisher.proofs.ReadyStates.{ready_appended, log_pending}
use Rattle.version_publisher.proofs.publisher.Publisher.append.Goals as goal

pub invariant_of-self-2 : goal.invariant_of-self-2
invariant_of-self-2 g c =
    let room : length (items_in c.self.inside.end.token.log) + length (g.P.Part.items (arc_value c.args.part)) ≤ g.P.Part.MOST =
    subst (λ l. length (items_in l) + length (g.P.Part.items (arc_value c.args.part)) ≤ g.P.Part.MOST) (ap (λ s. s.log ++ s.pending) (sym c.self.view_is) ∙ log_pending _ _ _ _ _ _ c.self.invariant.1) c.requires.room in
    let items : c.push.new.self.items ≡ c.self.inside.waiting.items ++ c.args.part ∷ [] = first_of (search rules, grind (arith, common_steps)) in
    let same : c.deref.result.now ≡ arc_value c.args.part = search rules in (
      (c.self.invariant.0.0 ∙ ap (λ b. book_name_of b ∷ []) (sym c.if-not-append.ensures.book), c.self.invariant.0.1),
      ready_appended _ _ _ _ _ _ _ _ _ (g.P.Part.items (arc_value c.args.part)) room c.self.invariant.1
          (ap (map (λ a. g.P.Part.items (arc_value a))) items ∙ map-append (λ a. g.P.Part.items (arc_value a)) c.self.inside.waiting.items (c.args.part ∷ []))
          (c.if-not-append.ensures.log ∙ ap (λ x. c.self.inside.end.token.log ++ g.P.Part.items x ∷ []) same)
          c.if-not-append.ensures.book,
    )
