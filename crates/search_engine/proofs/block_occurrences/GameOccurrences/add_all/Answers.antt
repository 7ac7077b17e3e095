use Rattle.std.proofs.Common.{arith, refl, subst}
use Rattle.std.proofs.lemmas.List.Elements.{Contains-get_or}
use Rattle.search_engine.specs.BlockCandidates.{candidate_at, no_candidate}
use Rattle.search_engine.specs.Gathering.{AreGathered, IsOfCandidates}
use Rattle.search_engine.proofs.GatheredLists.{of_candidates-more, of_candidates-start}
use Rattle.search_engine.proofs.GoingOn.{more-none, more-then}
use Rattle.search_engine.proofs.block_occurrences.GameOccurrences.add_all.Goals as goal

pub loop-candidate-init : goal.loop-candidate-init
loop-candidate-init c = record {
  gathered = of_candidates-start c.args.block.now c.args.ready.now.images.placements c.args.candidates.now c.args.self.now;
  go_on = more-none c.args.block.now c.args.ready.now.images.shape c.args.ready.now.images.placements c.args.self.now;
}

pub add-requires-clause-prepared : goal.add-requires-clause-prepared
add-requires-clause-prepared c =
    let found = c.args.candidates.now in
    let k = c.loop-candidate.candidate-index in
    c.requires.prepared (candidate_at found k) (Contains-get_or found k no_candidate c.loop-candidate-test.true)

pub add-requires-clause-on_boards : goal.add-requires-clause-on_boards
add-requires-clause-on_boards c =
    let found = c.args.candidates.now in
    let k = c.loop-candidate.candidate-index in
    c.requires.on_boards (candidate_at found k) (Contains-get_or found k no_candidate c.loop-candidate-test.true)

pub loop-candidate-preserved : goal.loop-candidate-preserved
loop-candidate-preserved c =
    let found = c.args.candidates.now in
    let images = c.args.ready.now.images in
    let k = c.loop-candidate.candidate-index in record {
      gathered = of_candidates-more c.args.block.now images.placements found c.args.self.now c.requires.few k (candidate_at found k) c.loop-candidate.self c.add.new.self refl c.loop-candidate.invariant.gathered c.in_ok-add.ensures.gathered;
      go_on = more-then c.args.block.now images.shape images.placements c.args.self.now c.loop-candidate.self c.add.new.self c.loop-candidate.invariant.go_on c.in_ok-add.ensures.go_on;
    }

pub returns-clause-gathered : goal.returns-clause-gathered
returns-clause-gathered c = subst (λ k. AreGathered c.args.block.now (IsOfCandidates c.args.ready.now.images.placements c.args.candidates.now k) c.args.self.now c.loop-candidate.self) (omega (arith, c.loop-candidate-test.false, c.loop-candidate.auto.candidate-index-end)) c.loop-candidate.invariant.gathered
