-- Which symmetries bring a position to its canonical position, by the least of its images.
use Rattle.std.proofs.Common.{◌≡◌, ℕ, List, sym, ap, ◌∙◌, subst, arith}
use Rattle.kb_geometry.specs.declared.shape.Shape.{Shape}
use Rattle.kb_geometry.specs.Board.{point_count}
use Rattle.kb_geometry.specs.Capture.{Position}
use Rattle.opening_tree.specs.declared.least.LeastImages.{LeastImages}
use Rattle.opening_tree.specs.Canonical.{Brings, IsCanonicalPosition}
use Rattle.opening_tree.specs.Frames.{AreImages, image_in, symmetries_of}
use Rattle.opening_tree.specs.Least.{AreBringing, AreLeastOf}
use Rattle.opening_tree.specs.Packing.{cells_of}
use Rattle.opening_tree.specs.Turned.{TurnedState}
use Rattle.opening_tree.proofs.LeastImages.{least-canonical}
use Rattle.opening_tree.proofs.PositionImages.{one_image}

module _ (shape : Shape) (position : Position) (images : List Position) (are : AreImages shape position images) (least : LeastImages) (of : AreLeastOf (symmetries_of shape) images least) where
  first-canonical : IsCanonicalPosition shape position (image_in images least.first)
  first-canonical =
      least-canonical shape position images are least.first (omega (arith, of.within, are.count))
      (λ n lt. of.none_before n (omega (arith, lt, are.count)))

  first-bringing : AreBringing shape position (image_in images least.first) least.all
  first-bringing = record {
    number = least.first;
    brings = are.each least.first (omega (arith, of.within, are.count));
    each = λ n lt.
        let own = are.each n (omega (arith, lt, are.count)) in (
          λ one. subst (λ (p : Position). Brings shape n position p) ((of.alike n lt).0 one) own,
          λ brings. (of.alike n lt).1 (one_image shape n position (image_in images n) (image_in images least.first) own brings),
        );
  }

-- the words of the least image are those of the canonical position
pub least-words : (shape : Shape) (position : Position) (turned : TurnedState) (least : LeastImages) (words : List ℕ) → turned.shape ≡ shape → AreImages shape position turned.images → AreLeastOf (symmetries_of turned.shape) turned.images least → cells_of (point_count turned.shape) words ≡ image_in turned.images least.first
    → IsCanonicalPosition shape position (cells_of (point_count shape) words) × AreBringing shape position (cells_of (point_count shape) words) least.all
least-words shape position turned least words same are of value =
    let least_of : AreLeastOf (symmetries_of shape) turned.images least = subst (λ (s : Shape). AreLeastOf (symmetries_of s) turned.images least) same of in
    let cells : image_in turned.images least.first ≡ cells_of (point_count shape) words = sym value ∙ ap (λ (s : Shape). cells_of (point_count s) words) same in (
      subst (IsCanonicalPosition shape position) cells (first-canonical shape position turned.images are least least_of),
      subst (λ (p : Position). AreBringing shape position p least.all) cells (first-bringing shape position turned.images are least least_of),
    )
