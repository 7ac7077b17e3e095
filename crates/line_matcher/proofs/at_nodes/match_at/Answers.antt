-- The occurrences are those of the images, and their placements are there.
use Rattle.std.proofs.Common.{◌≡◌, ◌<◌, ◌++◌, ◌∙◌, List, length, ap, sym, subst}
use Rattle.std.specs.Prelude.{All, IfOk}
use Rattle.pattern_images.specs.ImageList.{ImageList}
use Rattle.pattern_occurrences.specs.declared.occurrence.Occurrence.{Occurrence}
use Rattle.pattern_occurrences.specs.Occurrences.{occurrences_at_nodes}
use Rattle.line_matcher.specs.FoundOccurrences.{AreFound}
use Rattle.line_matcher.proofs.AtNodes.{placements_at_nodes}
use Rattle.line_matcher.proofs.at_nodes.match_at.Goals as goal

pub with_places-requires : goal.with_places-requires
with_places-requires g c =
    let placements = c.args.images.now.placements in
    let at = λ (images : ImageList). occurrences_at_nodes c.args.deltas.now images.placements c.args.nodes.now in
    let same : c.as_slice.result.now ≡ at c.args.images.now =
    c.as_slice.ensures.value ∙ c.in_ok-add_at_nodes.ensures.found ∙ ap (λ (none : List Occurrence). none ++ at c.in_ok-matcher.matcher.images.now) c.new-occurrences.ensures.items ∙ ap at c.in_ok-matcher.ensures in
    subst (λ (os : List Occurrence). All (λ (o : Occurrence). o.placement < length placements) os) (sym same) (placements_at_nodes c.args.deltas.now placements c.args.nodes.now)

pub returns-clause-found : goal.returns-clause-found
returns-clause-found g c =
    let placements = c.args.images.now.placements in
    let at = λ (images : ImageList). occurrences_at_nodes c.args.deltas.now images.placements c.args.nodes.now in
    let same : c.as_slice.result.now ≡ at c.args.images.now =
    c.as_slice.ensures.value ∙ c.in_ok-add_at_nodes.ensures.found ∙ ap (λ (none : List Occurrence). none ++ at c.in_ok-matcher.matcher.images.now) c.new-occurrences.ensures.items ∙ ap at c.in_ok-matcher.ensures in
    subst (λ (os : List Occurrence). IfOk c.with_places.result (λ found. AreFound placements os found.items)) same c.with_places.ensures
