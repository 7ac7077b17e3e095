-- The occurrences are those of the images, and their placements are there.
use Rattle.std.proofs.Common.{◌≡◌, ◌<◌, ◌∙◌, List, length, ap, sym, subst}
use Rattle.std.specs.Prelude.{All, IfOk}
use Rattle.pattern_images.specs.ImageList.{ImageList}
use Rattle.pattern_occurrences.specs.declared.occurrence.Occurrence.{Occurrence}
use Rattle.pattern_occurrences.specs.Occurrences.{occurrences_in}
use Rattle.pattern_occurrences.proofs.OccurrenceLaw.{placements_are_there}
use Rattle.line_matcher.specs.FoundOccurrences.{AreFound}
use Rattle.line_matcher.proofs.walk.match_game.Goals as goal

pub with_places-requires : goal.with_places-requires
with_places-requires g c =
    let placements = c.args.images.now.placements in
    let same : c.as_slice.result.now ≡ occurrences_in c.args.deltas.now placements =
    c.as_slice.ensures.value ∙ c.in_ok-occurrences.ensures.found ∙ ap (λ (images : ImageList). occurrences_in c.args.deltas.now images.placements) c.in_ok-matcher.ensures in
    subst (λ (os : List Occurrence). All (λ (o : Occurrence). o.placement < length placements) os) (sym same) (placements_are_there c.args.deltas.now placements)

pub returns-clause-found : goal.returns-clause-found
returns-clause-found g c =
    let placements = c.args.images.now.placements in
    let same : c.as_slice.result.now ≡ occurrences_in c.args.deltas.now placements =
    c.as_slice.ensures.value ∙ c.in_ok-occurrences.ensures.found ∙ ap (λ (images : ImageList). occurrences_in c.args.deltas.now images.placements) c.in_ok-matcher.ensures in
    subst (λ (os : List Occurrence). IfOk c.with_places.result (λ found. AreFound placements os found.items)) same c.with_places.ensures
