-- Which images of a position are the canonical position: a bit for each symmetry, the lowest for the
-- first. And the least of the points to which these symmetries move one.
use Rattle.std.specs.Prelude.{◌≡◌, ◌↔◌, ℕ, ◌<◌, ◌≤◌, List, Option, Some, None}
use Rattle.std.specs.Int.{bit_at}
use Rattle.std.specs.declared.cmp.Ordering.{Ordering}
use Rattle.std.specs.declared.cmp.Ordering.TheVariants as ordering
use Rattle.kb_geometry.specs.declared.shape.Point.{Point}
use Rattle.kb_geometry.specs.declared.shape.Shape.{Shape}
use Rattle.kb_geometry.specs.Board.{number_of}
use Rattle.kb_geometry.specs.Capture.{Position}
use Rattle.kb_geometry.specs.Symmetry.{moved}
use Rattle.opening_tree.specs.declared.least.LeastImages.{LeastImages}
use Rattle.opening_tree.specs.Canonical.{Brings, IsBefore}
use Rattle.opening_tree.specs.Frames.{image_in, symmetries_of}

-- how two positions stand to one another
pub record IsOrderOf (one other : Position) (order : Ordering) : Type 0 where
  pub less : order ≡ ordering.Less → IsBefore one other
  pub equal : order ≡ ordering.Equal → one ≡ other
  pub greater : order ≡ ordering.Greater → IsBefore other one

-- Of the first so many images, the first one before which none comes, and those that are like it.
pub record AreLeastOf (end : ℕ) (images : List Position) (least : LeastImages) : Type 0 where
  pub within : least.first < end
  pub none_before : (n : ℕ) →
      n < end →
      ¬ IsBefore (image_in images n) (image_in images least.first)
  pub alike : (n : ℕ) →
      n < end →
      (bit_at least.all n ≡ 1) ↔ (image_in images n ≡ image_in images least.first)
  pub rest : (n : ℕ) → end ≤ n → bit_at least.all n ≡ 0

-- The symmetries that bring a position to its canonical position.
pub record AreBringing (shape : Shape) (position canonical : Position) (all : ℕ) : Type 0 where
  pub number : ℕ
  pub brings : Brings shape number position canonical
  pub each : (n : ℕ) →
      n < symmetries_of shape →
      (bit_at all n ≡ 1) ↔ Brings shape n position canonical

-- One of the first so many symmetries that bring to the canonical position moves a point there, and
-- none of them moves it to a point of less number.
pub record IsLeastMoved (shape : Shape) (position canonical : Position) (point : Point) (end : ℕ)
    (found : Point) : Type 0 where
  pub number : ℕ
  pub brings : Brings shape number position canonical
  pub is_moved : found ≡ moved number shape point
  pub none_less : (other : ℕ) →
      other < end →
      Brings shape other position canonical →
      number_of shape found ≤ number_of shape (moved other shape point)

-- what is found so: none if none of the first so many symmetries brings there
abbrev pub IsLeastTo : Shape → Position → Position → Point → ℕ → Option Point → Type 0
IsLeastTo shape position canonical point end None =
    (n : ℕ) → n < end → ¬ Brings shape n position canonical
IsLeastTo shape position canonical point end (Some found) =
    IsLeastMoved shape position canonical point end found
