-- One placement more.
use Rattle.std.proofs.Common.{ℕ, ◌≡◌, ◌↔◌, ◌⊎◌, ◌∙◌, ap, length, subst, arith}
use Rattle.std.specs.Prelude.{Contains}
use Rattle.pattern_images.specs.ImageList.{ImageList}
use Rattle.ready_images.specs.Ready.{ReadyList}
use Rattle.run_matcher.specs.GoingOn.{occurrences_of}
use Rattle.run_matcher.specs.PlacementOccurrences.{IsOccurrenceBelow, IsOccurrenceOf}
use Rattle.run_matcher.proofs.OccurrencesOfOne.{below-more, gathered-all}
use Rattle.run_matcher.proofs.matching.match_runs.Goals as goal

pub loop-number-preserved : goal.loop-number-preserved
loop-number-preserved c = λ deltas are is o.
    below-more deltas c.args.ready.now.images.placements c.loop-number.number o (Contains (occurrences_of c.loop-number.gathered) o) (Contains (occurrences_of c.add.new.self) o) (c.loop-number.invariant deltas are is o) (subst (λ (r : ReadyList). Contains (occurrences_of c.add.new.self) o ↔ (Contains (occurrences_of c.loop-number.gathered) o ⊎ IsOccurrenceOf deltas r.images.placements c.loop-number.number o)) c.placement.ensures.ready (subst (λ (i : ℕ). Contains (occurrences_of c.add.new.self) o ↔ (Contains (occurrences_of c.loop-number.gathered) o ⊎ IsOccurrenceOf deltas c.placement.result.ready.now.images.placements i o)) c.placement.ensures.number (c.in_ok-add.ensures.occurrences deltas are is o)))

pub returns : goal.returns
returns c = λ deltas are is.
    let placements = c.args.ready.now.images.placements in
    let count : length c.images.result.now.placements ≡ length placements = ap (λ (i : ImageList). length i.placements) c.images.ensures.value in
    let all : c.loop-number.number ≡ length placements = omega (arith, count) in
    c.in_ok-occurrences.ensures ∙ ap occurrences_of c.deref.ensures.value
    ∙ c.in_ok-begun.ensures.list deltas placements
    (λ o.
    let so_far = subst (λ (n : ℕ). Contains (occurrences_of c.loop-number.gathered) o ↔ IsOccurrenceBelow deltas placements n o) all (c.loop-number.invariant deltas are is o) in
    let law = gathered-all deltas placements o in
    (λ h. law.0 (so_far.0 h), λ h. so_far.1 (law.1 h)))
