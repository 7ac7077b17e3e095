use Rattle.std.proofs.Common.{◌≡◌, ◌↔◌, ◌⊎◌, ◌∙◌, ℕ, Contains, ap, subst, sym}
use Rattle.std.proofs.lemmas.Option.{slice_get_within}
use Rattle.node_position.specs.Games.{Game}
use Rattle.ready_images.specs.Ready.{ReadyList}
use Rattle.run_matcher.specs.GoingOn.{GoesOnToHold, occurrences_of}
use Rattle.run_matcher.specs.PlacementOccurrences.{IsOccurrenceOf}
use Rattle.search_engine.specs.Gathering.{begun_at, gathered_of}
use Rattle.search_engine.proofs.GamesSearched.{same_game}
use Rattle.search_engine.proofs.GatheredLists.{of_candidate-all, of_candidate-more, of_candidate-start}
use Rattle.search_engine.proofs.GoingOn.{more-at, more-none, more-then}
use Rattle.search_engine.proofs.block_occurrences.GameOccurrences.add.Goals as goal

pub loop-at-init : goal.loop-at-init
loop-at-init c = record {
  gathered = of_candidate-start c.args.block.now c.args.ready.now.images.placements c.args.candidate c.args.self.now;
  go_on = more-none c.args.block.now c.args.ready.now.images.shape c.args.ready.now.images.placements c.args.self.now;
}

pub get-requires : goal.get-requires
get-requires c =
    let next = c.in-Some.ensures.some in
    let (game, there, shape) = c.requires.on_boards c.in-Some.at next.below next.set in
    slice_get_within c.args.block.now c.in-Some.at game there

pub add_at-requires-clause-shape : goal.add_at-requires-clause-shape
add_at-requires-clause-shape c =
    let next = c.in-Some.ensures.some in
    let (game, there, shape) = c.requires.on_boards c.in-Some.at next.below next.set in
    let same : c.get.result.now ≡ game = same_game c.args.block.now c.in-Some.at c.get.result.now game c.get.ensures.value there in
    ap (λ (g : Game). g.tree.shape) same ∙ shape ∙ ap (λ (r : ReadyList). r.images.shape) (sym c.prepared_as-placement.ensures.ready)

pub loop-at-preserved : goal.loop-at-preserved
loop-at-preserved c =
    let block = c.args.block.now in
    let images = c.args.ready.now.images in
    let lists = c.loop-at.self in
    let new = c.add_at.new.self in
    let at = c.in-Some.at in
    let next = c.in-Some.ensures.some in
    let (game, there, shape) = c.requires.on_boards at next.below next.set in
    let same : c.get.result.now ≡ game = same_game block at c.get.result.now game c.get.ensures.value there in record {
      gathered =
          of_candidate-more block images.placements c.args.candidate c.args.self.now c.loop-at.from at lists new c.get.result.now c.get.ensures.value next c.loop-at.invariant.gathered
          (λ changes of o. subst (λ (r : ReadyList). Contains (gathered_of new at) o ↔ (Contains (gathered_of lists at) o ⊎ IsOccurrenceOf changes r.images.placements c.args.candidate.placement o)) c.prepared_as-placement.ensures.ready
          (subst (λ (i : ℕ). Contains (gathered_of new at) o ↔ (Contains (gathered_of lists at) o ⊎ IsOccurrenceOf changes c.prepared_as-placement.result.ready.now.images.placements i o)) c.prepared_as-placement.ensures.number (c.in_ok-add_at.ensures.here changes of o)))
          (λ g other. ap occurrences_of (c.in_ok-add_at.ensures.others g other));
      go_on =
          more-then block images.shape images.placements c.args.self.now lists new c.loop-at.invariant.go_on
          (more-at block images.shape images.placements at lists new c.get.result.now c.get.ensures.value (ap (λ (g : Game). g.tree.shape) same ∙ shape)
          (λ changes of b h. subst (λ (r : ReadyList). Contains (begun_at lists at) b ⊎ GoesOnToHold changes r.images.placements b) c.prepared_as-placement.ensures.ready (c.in_ok-add_at.ensures.go_on changes of b h))
          c.in_ok-add_at.ensures.others);
    }

pub returns-clause-gathered : goal.returns-clause-gathered
returns-clause-gathered c =
    of_candidate-all c.args.block.now c.args.ready.now.images.placements c.args.candidate c.args.self.now c.requires.few c.loop-at.from c.loop-at.self c.in_default.ensures.none c.loop-at.invariant.gathered
