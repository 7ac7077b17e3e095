-- The least of the images of a position.
use Rattle.std.proofs.Common.{◌≡◌, ℕ, ◌+◌, ◌<◌, inl, inr, List, length, subst, arith}
use Rattle.std.proofs.lemmas.Bool.{cases_eq}
use Rattle.kb_geometry.specs.declared.shape.Shape.{Shape}
use Rattle.kb_geometry.specs.Capture.{Position}
use Rattle.opening_tree.specs.Canonical.{Brings, IsBefore, IsCanonicalPosition}
use Rattle.opening_tree.specs.Frames.{AreImages, image_in}
use Rattle.opening_tree.proofs.ImageChanges.{allowed-symmetry}
use Rattle.opening_tree.proofs.PositionImages.{one_image}
use Rattle.opening_tree.proofs.PositionOrder.{IsBefore-trans, not_before_itself}

-- ---- the least image

module _ (shape : Shape) (position : Position) (images : List Position) (are : AreImages shape position images) where
  -- an image is one of these
  among : (n : ℕ) (other : Position) → Brings shape n position other → (n < length images) × (other ≡ image_in images n)
  among n other brings =
      let below : n < length images = omega (arith, allowed-symmetry shape n brings.is_symmetry brings.is_allowed, are.count) in
      (below, one_image shape n position other (image_in images n) brings (are.each n below))

  -- one before which none comes is the canonical position
  pub least-canonical : (least : ℕ) → least < length images → ((n : ℕ) → n < length images → ¬ IsBefore (image_in images n) (image_in images least)) → IsCanonicalPosition shape position (image_in images least)
  least-canonical least lt none = record {
    is_image = (least, are.each least lt);
    is_least = λ other of_it before.
        let there = among of_it.0 other of_it.1 in
        none of_it.0 there.0 (subst (λ (x : Position). IsBefore x (image_in images least)) there.1 before);
  }

-- ---- the least of the first images

module _ (images : List Position) where
  module _ (least k : ℕ) (so_far : (n : ℕ) → n < k → ¬ IsBefore (image_in images n) (image_in images least)) where
    pub none_below-kept : ¬ IsBefore (image_in images k) (image_in images least) → (n : ℕ) → n < k + 1 → ¬ IsBefore (image_in images n) (image_in images least)
    none_below-kept none n lt before = elim (cases_eq n k) [
      | inl e ↦ none (subst (λ j. IsBefore (image_in images j) (image_in images least)) e before)
      | inr ne ↦ so_far n (omega (arith, lt, ne)) before
    ]

    pub none_below-moved : IsBefore (image_in images k) (image_in images least) → (n : ℕ) → n < k + 1 → ¬ IsBefore (image_in images n) (image_in images k)
    none_below-moved less n lt before = elim (cases_eq n k) [
      | inl e ↦ not_before_itself (image_in images k) (subst (λ j. IsBefore (image_in images j) (image_in images k)) e before)
      | inr ne ↦ so_far n (omega (arith, lt, ne)) (IsBefore-trans (image_in images n) (image_in images k) (image_in images least) before less)
    ]
