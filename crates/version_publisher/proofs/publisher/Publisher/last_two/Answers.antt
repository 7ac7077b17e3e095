use Rattle.std.proofs.Common.{rules, arith, ◌≡◌, ◌≤◌, ◌++◌, length, map, refl, sym, ap, subst, ◌∙◌}
use Rattle.std.proofs.lemmas.List.{length-map}
use Rattle.std.specs.Arc.{arc_value}
use Rattle.version_publisher.specs.Contents.{items_in, last_two_joined}
use Rattle.version_publisher.proofs.PartLists.{last_two_there, last_two_fit}
use Rattle.version_publisher.proofs.publisher.Publisher.last_two.Goals as goal

pub returns-clause-joined : goal.returns-clause-joined
returns-clause-joined g c =
    let items = g.P.Part.items in
    let xs = c.as_slice-parts.result.now in
    let parts : xs ≡ c.self.inside.writer.desk.shown.value.parts.items = search rules in
    let shown : map (λ a. items (arc_value a)) xs ≡ c.args.self.now.parts = ap (map (λ a. items (arc_value a))) parts ∙ ap (λ s. s.parts) c.self.view_is in
    let two : 2 ≤ length xs = omega (arith, c.if-len-lt2.false) in
    let first : c.deref.result.now ≡ arc_value c.index-parts-len.result = search rules in
    let second : c.deref-2.result.now ≡ arc_value c.index-parts-len-2.result = search rules in
    let last = last_two_there (λ a. items (arc_value a)) xs c.index-parts-len.result c.index-parts-len-2.result _ refl two c.index-parts-len.is c.index-parts-len-2.is in
    let long : length (map (λ a. items (arc_value a)) xs) ≡ length c.args.self.now.parts = ap length shown in (
      omega (arith, long, two, length-map xs (λ a. items (arc_value a))),
      ap last_two_joined (sym shown) ∙ (last ∙ (λ i. items (sym first i) ++ items (sym second i))),
    )

pub returns-clause-fits : goal.returns-clause-fits
returns-clause-fits g c =
    let items = g.P.Part.items in
    let most = g.P.Part.MOST in
    let xs = c.as_slice-parts.result.now in
    let all = c.self.inside.writer.desk.shown.value.parts.items in
    let parts : xs ≡ all = search rules in
    let two : 2 ≤ length xs = omega (arith, c.if-len-lt2.false) in
    let first : c.deref.result.now ≡ arc_value c.index-parts-len.result = search rules in
    let second : c.deref-2.result.now ≡ arc_value c.index-parts-len-2.result = search rules in
    let last = last_two_there (λ a. items (arc_value a)) xs c.index-parts-len.result c.index-parts-len-2.result _ refl two c.index-parts-len.is c.index-parts-len-2.is in
    let known = c.self.invariant.1.published_consistent in
    let fits : length (items_in (map (λ a. items (arc_value a)) all)) ≤ most = subst (λ n. n ≤ most) (ap length (sym known.1)) known.2 in
    last_two_fit (map (λ a. items (arc_value a)) xs) (items c.deref.result.now) (items c.deref-2.result.now) most (last ∙ (λ i. items (sym first i) ++ items (sym second i))) (subst (λ zs. length (items_in (map (λ a. items (arc_value a)) zs)) ≤ most) (sym parts) fits)
