use Rattle.std.proofs.Common.{◌≡◌, ◌≤◌, ◌∙◌, ap, length, subst, sym}
use Rattle.std.specs.Prelude.{Contains}
use Rattle.kb_geometry.specs.declared.shape.Shape.{Shape}
use Rattle.pattern_images.specs.Placements.{ArePlacements}
use Rattle.final_index.specs.Planes.{PlaneGames}
use Rattle.candidate_sieve.specs.Candidates.{AreCandidatesAdded}
use Rattle.search_engine.specs.Gathering.{AreOnBoards}
use Rattle.search_engine.proofs.GatheredBlocks.{not_on_shape, on_boards, on_shape, only_candidates, prepared}
use Rattle.search_engine.proofs.OrderedGames.{order-shape}
use Rattle.search_engine.proofs.GoingOn.{all-more}
use Rattle.search_engine.proofs.block_occurrences.gather_on_shape.Goals as goal

pub returns-in_default-clause-gathered : goal.returns-in_default-clause-gathered
returns-in_default-clause-gathered c =
    not_on_shape c.args.ready.now.query c.args.ready.now.shapes c.args.block.now c.args.games c.args.planes.now.shape c.args.room.now.gathered
    (λ there. c.in_default.ensures.none (subst (Contains c.args.ready.now.shapes) (sym c.shape.ensures) there))

pub add_candidates-requires-clause-shape : goal.add_candidates-requires-clause-shape
add_candidates-requires-clause-shape c = c.in-Some.ensures.shape ∙ c.shape.ensures ∙ sym (ap (λ (p : PlaneGames). p.shape) c.block_planes.ensures.planes)

pub add_candidates-requires-clause-order : goal.add_candidates-requires-clause-order
add_candidates-requires-clause-order c = order-shape c.args.block.now c.args.planes.now.shape c.in-Some.on_shape.now.images.shape c.block_planes.result.order c.block_planes.ensures.order (sym (c.in-Some.ensures.shape ∙ c.shape.ensures))

pub add_all-requires-clause-prepared : goal.add_all-requires-clause-prepared
add_all-requires-clause-prepared c =
    let query = c.args.ready.now.query in
    let planes = c.args.planes.now in
    let images = c.in-Some.on_shape.now.images in
    let few : length c.args.block.now ≤ 64 = c.block_planes.ensures.few in
    let are = subst (λ (s : Shape). ArePlacements query s images.placements) c.shape.ensures c.in-Some.ensures.placements in
    let order = c.block_planes.result.order in
    let ordered = c.block_planes.ensures.order in
    let same = c.in-Some.ensures.shape ∙ c.shape.ensures in
    let added = subst (λ (p : PlaneGames). AreCandidatesAdded p order images c.args.games c.clear.new.self.items c.add_candidates.new.found.items) c.block_planes.ensures.planes c.in_ok-add_candidates.ensures.ok in
    let left = only_candidates planes order c.args.games images c.clear.new.self.items c.add_candidates.new.found.items c.deref-2.result.now c.clear.ensures.items c.deref-2.ensures.value added in
    prepared query c.args.block.now few c.args.games planes c.requires order ordered images same are c.deref-2.result.now left

pub add_all-requires-clause-on_boards : goal.add_all-requires-clause-on_boards
add_all-requires-clause-on_boards c =
    let query = c.args.ready.now.query in
    let planes = c.args.planes.now in
    let images = c.in-Some.on_shape.now.images in
    let few : length c.args.block.now ≤ 64 = c.block_planes.ensures.few in
    let are = subst (λ (s : Shape). ArePlacements query s images.placements) c.shape.ensures c.in-Some.ensures.placements in
    let order = c.block_planes.result.order in
    let ordered = c.block_planes.ensures.order in
    let same = c.in-Some.ensures.shape ∙ c.shape.ensures in
    let added = subst (λ (p : PlaneGames). AreCandidatesAdded p order images c.args.games c.clear.new.self.items c.add_candidates.new.found.items) c.block_planes.ensures.planes c.in_ok-add_candidates.ensures.ok in
    let left = only_candidates planes order c.args.games images c.clear.new.self.items c.add_candidates.new.found.items c.deref-2.result.now c.clear.ensures.items c.deref-2.ensures.value added in
    let shape : images.shape ≡ planes.shape = c.in-Some.ensures.shape ∙ c.shape.ensures in
    λ d there. subst (λ (s : Shape). AreOnBoards c.args.block.now s d) (sym shape) (on_boards query c.args.block.now few c.args.games planes c.requires order ordered images same are c.deref-2.result.now left d there)

pub returns-clause-gathered : goal.returns-clause-gathered
returns-clause-gathered c =
    let query = c.args.ready.now.query in
    let planes = c.args.planes.now in
    let images = c.in-Some.on_shape.now.images in
    let few : length c.args.block.now ≤ 64 = c.block_planes.ensures.few in
    let are = subst (λ (s : Shape). ArePlacements query s images.placements) c.shape.ensures c.in-Some.ensures.placements in
    let order = c.block_planes.result.order in
    let ordered = c.block_planes.ensures.order in
    let same = c.in-Some.ensures.shape ∙ c.shape.ensures in
    let added = subst (λ (p : PlaneGames). AreCandidatesAdded p order images c.args.games c.clear.new.self.items c.add_candidates.new.found.items) c.block_planes.ensures.planes c.in_ok-add_candidates.ensures.ok in
    let left = only_candidates planes order c.args.games images c.clear.new.self.items c.add_candidates.new.found.items c.deref-2.result.now c.clear.ensures.items c.deref-2.ensures.value added in
    on_shape query c.args.block.now few c.args.games planes c.requires order ordered images same are c.deref-2.result.now left c.args.ready.now.shapes (subst (Contains c.args.ready.now.shapes) c.shape.ensures c.in-Some.ensures.among_shapes) c.args.room.now.gathered c.add_all.new.self c.in_ok-add_all.ensures.gathered

pub returns-clause-go_on : goal.returns-clause-go_on
returns-clause-go_on c =
    let query = c.args.ready.now.query in
    let images = c.in-Some.on_shape.now.images in
    all-more c.args.block.now images.shape images.placements query (subst (λ (s : Shape). ArePlacements query s images.placements) (sym c.in-Some.ensures.shape) c.in-Some.ensures.placements) c.args.room.now.gathered c.add_all.new.self c.in_ok-add_all.ensures.go_on
