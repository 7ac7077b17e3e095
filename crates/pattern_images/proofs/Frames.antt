-- Where a symmetry moves a rectangle of a board: its upper left point, and the points in it.
use Rattle.std.proofs.Common.{◌≡◌, ℕ, ◌+◌, ◌-◌, ◌<◌, ◌≤◌, ◌↔◌, sym, ap, ◌∙◌, subst, arith}
use Rattle.kb_geometry.specs.declared.shape.Shape.{Shape}
use Rattle.kb_geometry.specs.declared.shape.Point.{Point}
use Rattle.kb_geometry.specs.declared.shape.Rect.{Rect}
use Rattle.kb_geometry.specs.Board.{cols_of, rows_of, IsOnBoard, IsOrderedRectOnBoard, IsInside}
use Rattle.kb_geometry.specs.Symmetry.{moved, inverse_number, IsAllowed, point_of}
use Rattle.kb_geometry.proofs.Symmetries.{each_symmetry, same_point, moved_rect, moved_rect-image, moved_rect-on_board, IsTurned}
use Rattle.pattern_images.specs.Turned.{upper_left}

-- a rectangle of this size with its upper left point there lies on the board
abbrev pub Fits : Shape → Shape → Point → Type 0
Fits shape size base = (base.x + cols_of size ≤ cols_of shape) × (base.y + rows_of size ≤ rows_of shape)

-- the point that lies this far to the right of and below another
abbrev pub offset : Point → Point → Point
offset from by = point_of (from.x + by.x) (from.y + by.y)

module _ (shape size : Shape) (base : Point) (fits : Fits shape size base) where
  -- a point of the rectangle goes as far from the new upper left point as it goes in the rectangle's own frame
  pub moved-offset : (p : Point) → IsOnBoard size p → (n : ℕ) → n < 8 → IsAllowed n shape →
      moved n shape (offset base p) ≡ offset (upper_left n shape size base) (moved n size p)
  moved-offset p on = each_symmetry (λ n. IsAllowed n shape → moved n shape (offset base p) ≡ offset (upper_left n shape size base) (moved n size p))
      (λ a. same_point _ _ (omega arith) (omega arith))
      (λ a. same_point _ _ (omega arith) (omega arith))
      (λ a. same_point _ _ (omega arith) (omega arith))
      (λ a. same_point _ _ (omega arith) (omega arith))
      (λ a. same_point _ _ (omega arith) (omega arith))
      (λ a. same_point _ _ (omega arith) (omega arith))
      (λ a. same_point _ _ (omega arith) (omega arith))
      (λ a. same_point _ _ (omega arith) (omega arith))

-- the rectangle that the pattern covers as its upper left point goes over a rectangle
abbrev pub swept : Shape → Rect → Rect
swept size r = record { x0 = r.x0; y0 = r.y0; x1 = r.x1 + cols_of size - 1; y1 = r.y1 + rows_of size - 1 }

-- the rectangle over which the upper left point of a rectangle of this size goes if it covers that
abbrev pub shrunk : Shape → Rect → Rect
shrunk size r = record { x0 = r.x0; y0 = r.y0; x1 = r.x1 - (cols_of size - 1); y1 = r.y1 - (rows_of size - 1) }

-- the upper left points, after a symmetry, of the rectangles whose upper left points lie in a rectangle
abbrev pub corners : ℕ → Shape → Shape → Shape → Rect → Rect
corners n shape size to r = shrunk to (moved_rect n shape (swept size r))

module _ (shape size to : Shape) (r : Rect) (ordered : (r.x0 ≤ r.x1) × (r.y0 ≤ r.y1)) (fits : Fits shape size (point_of r.x1 r.y1)) where
  upper_left-inside : (base : Point) → IsInside r base → (n : ℕ) → n < 8 → IsAllowed n shape → IsTurned n size to → IsInside (corners n shape size to r) (upper_left n shape size base)
  upper_left-inside base inside = each_symmetry (λ n. IsAllowed n shape → IsTurned n size to → IsInside (corners n shape size to r) (upper_left n shape size base))
      (λ a t. (omega arith, omega arith, omega arith, omega arith))
      (λ a t. (omega arith, omega arith, omega arith, omega arith))
      (λ a t. (omega arith, omega arith, omega arith, omega arith))
      (λ a t. (omega arith, omega arith, omega arith, omega arith))
      (λ a t. (omega arith, omega arith, omega arith, omega arith))
      (λ a t. (omega arith, omega arith, omega arith, omega arith))
      (λ a t. (omega arith, omega arith, omega arith, omega arith))
      (λ a t. (omega arith, omega arith, omega arith, omega arith))

  from_inside : (q : Point) → (n : ℕ) → n < 8 → IsAllowed n shape → IsTurned n size to → IsInside (corners n shape size to r) q →
      IsInside r (upper_left (inverse_number n) shape to q)
  from_inside q = each_symmetry (λ n. IsAllowed n shape → IsTurned n size to → IsInside (corners n shape size to r) q → IsInside r (upper_left (inverse_number n) shape to q))
      (λ a t h. (omega arith, omega arith, omega arith, omega arith))
      (λ a t h. (omega arith, omega arith, omega arith, omega arith))
      (λ a t h. (omega arith, omega arith, omega arith, omega arith))
      (λ a t h. (omega arith, omega arith, omega arith, omega arith))
      (λ a t h. (omega arith, omega arith, omega arith, omega arith))
      (λ a t h. (omega arith, omega arith, omega arith, omega arith))
      (λ a t h. (omega arith, omega arith, omega arith, omega arith))
      (λ a t h. (omega arith, omega arith, omega arith, omega arith))

  from_inside-back : (q : Point) → (n : ℕ) → n < 8 → IsAllowed n shape → IsTurned n size to → IsInside (corners n shape size to r) q →
      upper_left n shape size (upper_left (inverse_number n) shape to q) ≡ q
  from_inside-back q = each_symmetry (λ n. IsAllowed n shape → IsTurned n size to → IsInside (corners n shape size to r) q → upper_left n shape size (upper_left (inverse_number n) shape to q) ≡ q)
      (λ a t h. same_point _ q (omega arith) (omega arith))
      (λ a t h. same_point _ q (omega arith) (omega arith))
      (λ a t h. same_point _ q (omega arith) (omega arith))
      (λ a t h. same_point _ q (omega arith) (omega arith))
      (λ a t h. same_point _ q (omega arith) (omega arith))
      (λ a t h. same_point _ q (omega arith) (omega arith))
      (λ a t h. same_point _ q (omega arith) (omega arith))
      (λ a t h. same_point _ q (omega arith) (omega arith))

  -- the points of that rectangle are the upper left points of the moved rectangles
  pub corners-are : (n : ℕ) → n < 8 → IsAllowed n shape → IsTurned n size to → (q : Point) →
      IsInside (corners n shape size to r) q ↔ ((base : Point) × IsInside r base × (upper_left n shape size base ≡ q))
  corners-are n lt allowed turned q = (
    (λ h. (upper_left (inverse_number n) shape to q, from_inside q n lt allowed turned h, from_inside-back q n lt allowed turned h)),
    (λ h. subst (λ (p : Point). IsInside (corners n shape size to r) p) h.2 (upper_left-inside h.0 h.1 n lt allowed turned)),
  )

same_rect : (a b : Rect) → a.x0 ≡ b.x0 → a.y0 ≡ b.y0 → a.x1 ≡ b.x1 → a.y1 ≡ b.y1 → a ≡ b
same_rect a b x0 y0 x1 y1 =
    ap (λ n. record { x0 = n; y0 = a.y0; x1 = a.x1; y1 = a.y1 }) x0
    ∙ ap (λ n. record { x0 = b.x0; y0 = n; x1 = a.x1; y1 = a.y1 }) y0
    ∙ ap (λ n. record { x0 = b.x0; y0 = b.y0; x1 = n; y1 = a.y1 }) x1
    ∙ ap (λ n. record { x0 = b.x0; y0 = b.y0; x1 = b.x1; y1 = n }) y1

-- two rectangles with the same points are one
rect_only : (a b : Rect) → a.x0 ≤ a.x1 → a.y0 ≤ a.y1 → b.x0 ≤ b.x1 → b.y0 ≤ b.y1 → ((q : Point) → IsInside a q → IsInside b q) → ((q : Point) → IsInside b q → IsInside a q) → a ≡ b
rect_only a b ax ay bx by there back =
    let first = there (point_of a.x0 a.y0) (omega arith, omega arith, omega arith, omega arith) in
    let last = there (point_of a.x1 a.y1) (omega arith, omega arith, omega arith, omega arith) in
    let first' = back (point_of b.x0 b.y0) (omega arith, omega arith, omega arith, omega arith) in
    let last' = back (point_of b.x1 b.y1) (omega arith, omega arith, omega arith, omega arith) in
    same_rect a b (omega arith) (omega arith) (omega arith) (omega arith)

-- the rectangle of the images of the points of a rectangle is the one between the images of its corners
pub image_rect : (shape : Shape) (r image : Rect) (n : ℕ) → n < 8 → IsAllowed n shape → IsOrderedRectOnBoard shape r → IsOrderedRectOnBoard shape image →
    ((q : Point) → IsInside image q ↔ ((p : Point) × IsInside r p × (moved n shape p ≡ q))) → image ≡ moved_rect n shape r
image_rect shape r image n lt allowed on image_on are =
    let other_on : IsOrderedRectOnBoard shape (moved_rect n shape r) = moved_rect-on_board shape r on n lt allowed in
    rect_only image (moved_rect n shape r) image_on.0 image_on.1 other_on.0 other_on.1
    (λ q h. (moved_rect-image shape r n lt allowed on q).1 ((are q).0 h))
    (λ q h. (are q).1 ((moved_rect-image shape r n lt allowed on q).0 h))

-- ---- what the function that finds the upper left points computes

module _ (shape size to : Shape) (base : Rect) (ordered : (base.x0 ≤ base.x1) × (base.y0 ≤ base.y1)) (fits : Fits shape size (point_of base.x1 base.y1)) where
  swept-on_board : IsOrderedRectOnBoard shape (swept size base)
  swept-on_board = (omega (arith, size.in_range.0), omega (arith, size.in_range.1), omega (arith, size.in_range.0), omega (arith, size.in_range.1))

  -- the covered rectangle is as wide and as high as the turned one, at least
  swept-large : (n : ℕ) → n < 8 → IsAllowed n shape → IsTurned n size to →
      (cols_of to - 1 ≤ (moved_rect n shape (swept size base)).x1) × (rows_of to - 1 ≤ (moved_rect n shape (swept size base)).y1)
  swept-large = each_symmetry (λ n. IsAllowed n shape → IsTurned n size to → (cols_of to - 1 ≤ (moved_rect n shape (swept size base)).x1) × (rows_of to - 1 ≤ (moved_rect n shape (swept size base)).y1))
      (λ a t. (omega arith, omega arith))
      (λ a t. (omega arith, omega arith))
      (λ a t. (omega arith, omega arith))
      (λ a t. (omega arith, omega arith))
      (λ a t. (omega arith, omega arith))
      (λ a t. (omega arith, omega arith))
      (λ a t. (omega arith, omega arith))
      (λ a t. (omega arith, omega arith))

  module _ (n : ℕ) (lt : n < 8) (allowed : IsAllowed n shape) (turned : IsTurned n size to) (covered : Rect) (w h tw th : ℕ)
      (w_is : w ≡ cols_of size) (h_is : h ≡ rows_of size) (tw_is : tw ≡ cols_of to) (th_is : th ≡ rows_of to) (on : IsOrderedRectOnBoard shape covered)
      (image : (q : Point) → IsInside covered q ↔ ((p : Point) × IsInside (record { x0 = base.x0; y0 = base.y0; x1 = base.x1 + w - 1; y1 = base.y1 + h - 1 }) p × (moved n shape p ≡ q))) where
    covered-is : covered ≡ moved_rect n shape (swept size base)
    covered-is =
        let passed : record { x0 = base.x0; y0 = base.y0; x1 = base.x1 + w - 1; y1 = base.y1 + h - 1 } ≡ swept size base =
        ap (λ m. record { x0 = base.x0; y0 = base.y0; x1 = base.x1 + m - 1; y1 = base.y1 + h - 1 }) w_is
        ∙ ap (λ m. record { x0 = base.x0; y0 = base.y0; x1 = base.x1 + cols_of size - 1; y1 = base.y1 + m - 1 }) h_is in
        image_rect shape (swept size base) covered n lt allowed swept-on_board on
        (subst (λ (r : Rect). (q : Point) → IsInside covered q ↔ ((p : Point) × IsInside r p × (moved n shape p ≡ q))) passed image)

    pub covered-wide : tw - 1 ≤ covered.x1
    covered-wide = subst (λ (r : Rect). tw - 1 ≤ r.x1) (sym covered-is) (subst (λ (m : ℕ). m - 1 ≤ (moved_rect n shape (swept size base)).x1) (sym tw_is) (swept-large n lt allowed turned).0)

    pub covered-high : th - 1 ≤ covered.y1
    covered-high = subst (λ (r : Rect). th - 1 ≤ r.y1) (sym covered-is) (subst (λ (m : ℕ). m - 1 ≤ (moved_rect n shape (swept size base)).y1) (sym th_is) (swept-large n lt allowed turned).1)

    pub covered-corners : (q : Point) → IsInside (record { x0 = covered.x0; y0 = covered.y0; x1 = covered.x1 - (tw - 1); y1 = covered.y1 - (th - 1) }) q
        ↔ ((p : Point) × IsInside base p × (upper_left n shape size p ≡ q))
    covered-corners q =
        let same : corners n shape size to base ≡ record { x0 = covered.x0; y0 = covered.y0; x1 = covered.x1 - (tw - 1); y1 = covered.y1 - (th - 1) } =
        ap (λ (r : Rect). shrunk to r) (sym covered-is)
        ∙ ap (λ m. record { x0 = covered.x0; y0 = covered.y0; x1 = covered.x1 - (m - 1); y1 = covered.y1 - (rows_of to - 1) }) (sym tw_is)
        ∙ ap (λ m. record { x0 = covered.x0; y0 = covered.y0; x1 = covered.x1 - (tw - 1); y1 = covered.y1 - (m - 1) }) (sym th_is) in
        subst (λ (r : Rect). IsInside r q ↔ ((p : Point) × IsInside base p × (upper_left n shape size p ≡ q))) same
        (corners-are shape size to base ordered fits n lt allowed turned q)
