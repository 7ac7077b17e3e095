use Rattle.std.proofs.Common.{◌≡◌, ℕ, ◌+◌, ◌<◌, ◌≤◌, List, ap, arith, length, subst, sym}
use Rattle.std.specs.Prelude.{slice_range}
use Rattle.pattern_images.specs.ImageList.{ImageList}
use Rattle.ready_images.specs.declared.corner_number.CornerNumber.{CornerNumber}
use Rattle.ready_images.specs.Corners.{AreCornersOf}
use Rattle.ready_images.specs.Ready.{ReadyList}
use Rattle.ready_images.specs.StoredCorners.{corner_at}
use Rattle.ready_images.proofs.CornerLists.{bounds-ordered, corners-of_one}
use Rattle.ready_images.proofs.ready_images.ReadyImages.corners_of.Goals as goal

pub slice_bounds-result-count : goal.slice_bounds-result-count
slice_bounds-result-count c =
    let p = c.args.placement in
    let first = c.first_of-first.result in
    let end = c.first_of-end.result in
    let lower = subst (λ (cs : List CornerNumber). (k : ℕ) → k < c.first_of-first.result → (corner_at cs k).placement < c.args.placement) c.deref.ensures.value c.first_of-first.ensures.before in
    let above = subst (λ (cs : List CornerNumber). (k : ℕ) → c.first_of-end.result ≤ k → k < length cs → c.args.placement + 1 ≤ (corner_at cs k).placement) c.deref-2.ensures.value c.first_of-end.ensures.from in
    bounds-ordered c.self.inside.corners.items p first end (omega (arith, c.first_of-first.ensures.most, ap length c.deref.ensures.value)) lower above

pub slice_bounds-result-start : goal.slice_bounds-result-start
slice_bounds-result-start c = omega (arith, slice_bounds-result-count c, c.first_of-end.ensures.most, ap length c.deref-2.ensures.value, ap length c.deref-3.ensures.value)

pub returns : goal.returns
returns c =
    let p = c.args.placement in
    let first = c.first_of-first.result in
    let end = c.first_of-end.result in
    let corners = c.self.inside.corners.items in
    let same : c.self.inside.images ≡ c.args.self.now.images = ap (λ (r : ReadyList). r.images) c.self.view_is in
    let lower = subst (λ (cs : List CornerNumber). (k : ℕ) → k < c.first_of-first.result → (corner_at cs k).placement < c.args.placement) c.deref.ensures.value c.first_of-first.ensures.before in
    let from = subst (λ (cs : List CornerNumber). (k : ℕ) → c.first_of-first.result ≤ k → k < length cs → c.args.placement ≤ (corner_at cs k).placement) c.deref.ensures.value c.first_of-first.ensures.from in
    let before = subst (λ (cs : List CornerNumber). (k : ℕ) → k < c.first_of-end.result → (corner_at cs k).placement < c.args.placement + 1) c.deref-2.ensures.value c.first_of-end.ensures.before in
    let above = subst (λ (cs : List CornerNumber). (k : ℕ) → c.first_of-end.result ≤ k → k < length cs → c.args.placement + 1 ≤ (corner_at cs k).placement) c.deref-2.ensures.value c.first_of-end.ensures.from in
    let most : c.first_of-end.result ≤ length c.self.inside.corners.items = omega (arith, c.first_of-end.ensures.most, ap length c.deref-2.ensures.value) in
    let in_range : c.args.placement < length c.self.inside.images.placements = omega (arith, c.requires, ap (λ (i : ImageList). length i.placements) same) in
    subst (λ (i : ImageList). AreCornersOf i c.args.placement (slice_range c.deref-3.result.now c.first_of-first.result c.first_of-end.result)) same
    (subst (λ (cs : List CornerNumber). AreCornersOf c.self.inside.images c.args.placement (slice_range cs c.first_of-first.result c.first_of-end.result)) (sym c.deref-3.ensures.value)
    (corners-of_one c.self.inside.images corners c.self.invariant.covered p first end in_range lower from before above most))
