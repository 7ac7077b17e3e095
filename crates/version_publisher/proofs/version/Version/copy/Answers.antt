use Rattle.std.proofs.Common.{rules, ◌≡◌, map, ap, ◌∙◌}
use Rattle.std.proofs.lemmas.Result.{IfOk-weaker}
use Rattle.std.specs.Arc.{arc_value}
use Rattle.version_publisher.proofs.version.Version.copy.Goals as goal

pub returns : goal.returns
returns g c =
    let s : c.as_slice.result.now ≡ c.self.inside.parts.items = search rules in
    let items = ap (map (λ a. g.P.Part.items (arc_value a))) s in
    IfOk-weaker c.of.result _ _ (λ v h. (λ i. record { number = h.0 i; parts = (h.1 ∙ items) i }) ∙ c.self.view_is) c.of.ensures
