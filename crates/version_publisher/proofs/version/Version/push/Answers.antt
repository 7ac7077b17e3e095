use Rattle.std.proofs.Common.{rules, arith, ◌≡◌, ◌≤◌, ◌+◌, ◌∷◌, ◌++◌, [], length, map, sym, ap, subst, ◌∙◌}
use Rattle.std.proofs.lemmas.Grind.{common_steps}
use Rattle.std.proofs.lemmas.List.{map-append}
use Rattle.std.specs.Arc.{arc_value}
use Rattle.version_publisher.specs.Contents.{items_in}
use Rattle.version_publisher.proofs.ReadyStates.{joined_append_fits}
use Rattle.version_publisher.proofs.version.Version.push.Goals as goal

pub invariant_of-self-2 : goal.invariant_of-self-2
invariant_of-self-2 g c =
    let old = c.self.inside.parts.items in
    let items : c.push.new.self.items ≡ old ++ c.args.part ∷ [] = first_of (search rules, grind (arith, common_steps)) in
    let e = ap (map (λ a. g.P.Part.items (arc_value a))) items ∙ map-append (λ a. g.P.Part.items (arc_value a)) old (c.args.part ∷ []) in
    let room : length (items_in (map (λ a. g.P.Part.items (arc_value a)) old)) + length (g.P.Part.items (arc_value c.args.part)) ≤ g.P.Part.MOST =
    subst (λ s. length (items_in s.parts) + length (g.P.Part.items (arc_value c.args.part)) ≤ g.P.Part.MOST) (sym c.self.view_is) c.requires.room in
    subst (λ z. length (items_in z) ≤ g.P.Part.MOST) (sym e) (joined_append_fits g.P.Part.MOST (map (λ a. g.P.Part.items (arc_value a)) old) (g.P.Part.items (arc_value c.args.part)) room)
