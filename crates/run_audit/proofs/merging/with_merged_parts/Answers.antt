use Rattle.std.proofs.Common.{◌∙◌, ap, arith, length, map}
use Rattle.std.specs.Arc.{arc_value}
use Rattle.version_publisher.specs.Contents.{items_in}
use Rattle.run_audit.proofs.MergedParts.{merged-version}
use Rattle.run_audit.proofs.merging.with_merged_parts.Goals as goal

pub merged_parts-requires : goal.merged_parts-requires
merged_parts-requires c = omega (arith, ap (λ l. length (items_in l)) c.parts.ensures.items, c.parts.ensures.fits)

pub returns-clause-games : goal.returns-clause-games
returns-clause-games c =
    merged-version c.of.result _ _ _ c.of.ensures
    (ap (λ l. items_in (map arc_value l)) c.as_slice.ensures.value ∙ c.in_ok-parts.ensures.same ∙ ap items_in c.parts.ensures.items)
