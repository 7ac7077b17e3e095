-- The symmetries move points of a board to points of the board, their inverses move them back, and a rectangle goes to
-- the rectangle between the images of two opposite corners.
use Rattle.std.proofs.Common.{◌≡◌, ℕ, zero, suc, ◌<◌, ◌↔◌, ap, ◌∙◌, subst, arith}
use Prim.Native.Nat.{min, max}
use Rattle.kb_geometry.specs.declared.shape.Shape.{Shape}
use Rattle.kb_geometry.specs.declared.shape.Point.{Point}
use Rattle.kb_geometry.specs.declared.shape.Rect.{Rect}
use Rattle.kb_geometry.specs.Board.{cols_of, rows_of, IsOnBoard, IsOrderedRectOnBoard, IsInside}
use Rattle.kb_geometry.specs.Symmetry.{moved, inverse_number, turned_cols, turned_rows, IsAllowed, point_of}

-- what holds for each of the eight symmetries
pub each_symmetry : (P : ℕ → Type 0) → P 0 → P 1 → P 2 → P 3 → P 4 → P 5 → P 6 → P 7 → (n : ℕ) → n < 8 → P n
each_symmetry P a b c d e f g h zero lt = a
each_symmetry P a b c d e f g h (suc zero) lt = b
each_symmetry P a b c d e f g h (suc (suc zero)) lt = c
each_symmetry P a b c d e f g h (suc (suc (suc zero))) lt = d
each_symmetry P a b c d e f g h (suc (suc (suc (suc zero)))) lt = e
each_symmetry P a b c d e f g h (suc (suc (suc (suc (suc zero))))) lt = f
each_symmetry P a b c d e f g h (suc (suc (suc (suc (suc (suc zero)))))) lt = g
each_symmetry P a b c d e f g h (suc (suc (suc (suc (suc (suc (suc zero))))))) lt = h
each_symmetry P a b c d e f g h (suc (suc (suc (suc (suc (suc (suc (suc n)))))))) lt = absurd (omega arith)

pub same_point : (p q : Point) → p.x ≡ q.x → p.y ≡ q.y → p ≡ q
same_point p q x y = ap (λ a. point_of a p.y) x ∙ ap (λ b. point_of q.x b) y

module _ (shape : Shape) (p : Point) (on_board : IsOnBoard shape p) where
  -- a symmetry moves a point of the board to one of the board
  pub moved-on_board : (n : ℕ) → n < 8 → IsAllowed n shape → IsOnBoard shape (moved n shape p)
  moved-on_board = each_symmetry (λ n. IsAllowed n shape → IsOnBoard shape (moved n shape p))
      (λ a. (omega arith, omega arith))
      (λ a. (omega arith, omega arith))
      (λ a. (omega arith, omega arith))
      (λ a. (omega arith, omega arith))
      (λ a. (omega arith, omega arith))
      (λ a. (omega arith, omega arith))
      (λ a. (omega arith, omega arith))
      (λ a. (omega arith, omega arith))

  -- and the inverse moves it back
  pub moved-inverse : (n : ℕ) → n < 8 → IsAllowed n shape → moved (inverse_number n) shape (moved n shape p) ≡ p
  moved-inverse = each_symmetry (λ n. IsAllowed n shape → moved (inverse_number n) shape (moved n shape p) ≡ p)
      (λ a. same_point _ p (omega arith) (omega arith))
      (λ a. same_point _ p (omega arith) (omega arith))
      (λ a. same_point _ p (omega arith) (omega arith))
      (λ a. same_point _ p (omega arith) (omega arith))
      (λ a. same_point _ p (omega arith) (omega arith))
      (λ a. same_point _ p (omega arith) (omega arith))
      (λ a. same_point _ p (omega arith) (omega arith))
      (λ a. same_point _ p (omega arith) (omega arith))

  pub inverse-moved : (n : ℕ) → n < 8 → IsAllowed n shape → moved n shape (moved (inverse_number n) shape p) ≡ p
  inverse-moved = each_symmetry (λ n. IsAllowed n shape → moved n shape (moved (inverse_number n) shape p) ≡ p)
      (λ a. same_point _ p (omega arith) (omega arith))
      (λ a. same_point _ p (omega arith) (omega arith))
      (λ a. same_point _ p (omega arith) (omega arith))
      (λ a. same_point _ p (omega arith) (omega arith))
      (λ a. same_point _ p (omega arith) (omega arith))
      (λ a. same_point _ p (omega arith) (omega arith))
      (λ a. same_point _ p (omega arith) (omega arith))
      (λ a. same_point _ p (omega arith) (omega arith))

-- the rectangle between two opposite corners
abbrev pub between : Point → Point → Rect
between p q = record { x0 = min p.x q.x; y0 = min p.y q.y; x1 = max p.x q.x; y1 = max p.y q.y }

-- the rectangle between the images of the corners of a rectangle
abbrev pub moved_rect : ℕ → Shape → Rect → Rect
moved_rect n shape r = between (moved n shape (point_of r.x0 r.y0)) (moved n shape (point_of r.x1 r.y1))

module _ (shape : Shape) (r : Rect) (on_board : IsOrderedRectOnBoard shape r) where
  pub moved_rect-on_board : (n : ℕ) → n < 8 → IsAllowed n shape → IsOrderedRectOnBoard shape (moved_rect n shape r)
  moved_rect-on_board = each_symmetry (λ n. IsAllowed n shape → IsOrderedRectOnBoard shape (moved_rect n shape r))
      (λ a. (omega arith, omega arith, omega arith, omega arith))
      (λ a. (omega arith, omega arith, omega arith, omega arith))
      (λ a. (omega arith, omega arith, omega arith, omega arith))
      (λ a. (omega arith, omega arith, omega arith, omega arith))
      (λ a. (omega arith, omega arith, omega arith, omega arith))
      (λ a. (omega arith, omega arith, omega arith, omega arith))
      (λ a. (omega arith, omega arith, omega arith, omega arith))
      (λ a. (omega arith, omega arith, omega arith, omega arith))

  -- a point of the rectangle goes into the rectangle between the images
  pub moved-inside : (p : Point) → IsInside r p → (n : ℕ) → n < 8 → IsAllowed n shape → IsInside (moved_rect n shape r) (moved n shape p)
  moved-inside p inside = each_symmetry (λ n. IsAllowed n shape → IsInside (moved_rect n shape r) (moved n shape p))
      (λ a. (omega arith, omega arith, omega arith, omega arith))
      (λ a. (omega arith, omega arith, omega arith, omega arith))
      (λ a. (omega arith, omega arith, omega arith, omega arith))
      (λ a. (omega arith, omega arith, omega arith, omega arith))
      (λ a. (omega arith, omega arith, omega arith, omega arith))
      (λ a. (omega arith, omega arith, omega arith, omega arith))
      (λ a. (omega arith, omega arith, omega arith, omega arith))
      (λ a. (omega arith, omega arith, omega arith, omega arith))

  -- and each point of that comes from one of the rectangle
  pub inside-moved : (q : Point) → (n : ℕ) → n < 8 → IsAllowed n shape → IsInside (moved_rect n shape r) q → IsInside r (moved (inverse_number n) shape q)
  inside-moved q = each_symmetry (λ n. IsAllowed n shape → IsInside (moved_rect n shape r) q → IsInside r (moved (inverse_number n) shape q))
      (λ a h. (omega arith, omega arith, omega arith, omega arith))
      (λ a h. (omega arith, omega arith, omega arith, omega arith))
      (λ a h. (omega arith, omega arith, omega arith, omega arith))
      (λ a h. (omega arith, omega arith, omega arith, omega arith))
      (λ a h. (omega arith, omega arith, omega arith, omega arith))
      (λ a h. (omega arith, omega arith, omega arith, omega arith))
      (λ a h. (omega arith, omega arith, omega arith, omega arith))
      (λ a h. (omega arith, omega arith, omega arith, omega arith))

-- the points of the rectangle between the images are the images of the points of the rectangle
pub moved_rect-image : (shape : Shape) (r : Rect) (n : ℕ) → n < 8 → IsAllowed n shape → IsOrderedRectOnBoard shape r → (q : Point) → IsInside (moved_rect n shape r) q ↔ ((p : Point) × IsInside r p × (moved n shape p ≡ q))
moved_rect-image shape r n lt allowed on_board q =
    let on : IsOrderedRectOnBoard shape (moved_rect n shape r) = moved_rect-on_board shape r on_board n lt allowed in (
      (λ inside. let q_on : IsOnBoard shape q = (omega arith, omega arith) in
          (moved (inverse_number n) shape q, inside-moved shape r on_board q n lt allowed inside, inverse-moved shape q q_on n lt allowed)),
      (λ h. subst (λ (q : Point). IsInside (moved_rect n shape r) q) h.2 (moved-inside shape r on_board h.0 h.1 n lt allowed)),
    )

-- ---- rectangles in their own frame

-- the size of a rectangle after a symmetry
abbrev pub IsTurned : ℕ → Shape → Shape → Type 0
IsTurned n size to = (cols_of to ≡ turned_cols n size) × (rows_of to ≡ turned_rows n size)

module _ (size to : Shape) (p : Point) where
  -- a symmetry moves a point of a rectangle to one of the turned rectangle
  pub moved-turned : IsOnBoard size p → (n : ℕ) → n < 8 → IsTurned n size to → IsOnBoard to (moved n size p)
  moved-turned on = each_symmetry (λ n. IsTurned n size to → IsOnBoard to (moved n size p))
      (λ t. (omega arith, omega arith))
      (λ t. (omega arith, omega arith))
      (λ t. (omega arith, omega arith))
      (λ t. (omega arith, omega arith))
      (λ t. (omega arith, omega arith))
      (λ t. (omega arith, omega arith))
      (λ t. (omega arith, omega arith))
      (λ t. (omega arith, omega arith))

  -- and the inverse, in the turned rectangle, moves it back
  pub turned-back : IsOnBoard size p → (n : ℕ) → n < 8 → IsTurned n size to → moved (inverse_number n) to (moved n size p) ≡ p
  turned-back on = each_symmetry (λ n. IsTurned n size to → moved (inverse_number n) to (moved n size p) ≡ p)
      (λ t. same_point _ p (omega arith) (omega arith))
      (λ t. same_point _ p (omega arith) (omega arith))
      (λ t. same_point _ p (omega arith) (omega arith))
      (λ t. same_point _ p (omega arith) (omega arith))
      (λ t. same_point _ p (omega arith) (omega arith))
      (λ t. same_point _ p (omega arith) (omega arith))
      (λ t. same_point _ p (omega arith) (omega arith))
      (λ t. same_point _ p (omega arith) (omega arith))

  -- the inverse moves a point of the turned rectangle to one of the rectangle
  pub inverse-turned : IsOnBoard to p → (n : ℕ) → n < 8 → IsTurned n size to → IsOnBoard size (moved (inverse_number n) to p)
  inverse-turned on = each_symmetry (λ n. IsTurned n size to → IsOnBoard size (moved (inverse_number n) to p))
      (λ t. (omega arith, omega arith))
      (λ t. (omega arith, omega arith))
      (λ t. (omega arith, omega arith))
      (λ t. (omega arith, omega arith))
      (λ t. (omega arith, omega arith))
      (λ t. (omega arith, omega arith))
      (λ t. (omega arith, omega arith))
      (λ t. (omega arith, omega arith))

  -- which the symmetry moves back
  pub back-turned : IsOnBoard to p → (n : ℕ) → n < 8 → IsTurned n size to → moved n size (moved (inverse_number n) to p) ≡ p
  back-turned on = each_symmetry (λ n. IsTurned n size to → moved n size (moved (inverse_number n) to p) ≡ p)
      (λ t. same_point _ p (omega arith) (omega arith))
      (λ t. same_point _ p (omega arith) (omega arith))
      (λ t. same_point _ p (omega arith) (omega arith))
      (λ t. same_point _ p (omega arith) (omega arith))
      (λ t. same_point _ p (omega arith) (omega arith))
      (λ t. same_point _ p (omega arith) (omega arith))
      (λ t. same_point _ p (omega arith) (omega arith))
      (λ t. same_point _ p (omega arith) (omega arith))
