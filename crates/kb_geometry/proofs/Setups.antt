-- A setup sets the points of its rectangle and no other point.
use Rattle.std.proofs.Common.{◌≡◌, inl, inr, Bool, true, false, cond, ◌&&◌, refl, ap, ◌∙◌, zero-add}
use Rattle.std.specs.Prelude.{nat_le}
use Rattle.std.proofs.lemmas.Bool.{cases_Bool, leb-true, le-leb}
use Rattle.std.proofs.lemmas.Nat.{div-mul-add, mod-mul-add}
use Rattle.std.proofs.lemmas.List.FromFn.{get_or-map-range_with_len}
use Rattle.kb_geometry.specs.declared.shape.Shape.{Shape}
use Rattle.kb_geometry.specs.declared.shape.Point.{Point}
use Rattle.kb_geometry.specs.declared.shape.Rect.{Rect}
use Rattle.kb_geometry.specs.declared.stone.Cell.{Cell}
use Rattle.kb_geometry.specs.declared.stone.Cell.TheVariants as cell
use Rattle.kb_geometry.specs.Board.{IsInside, IsOnBoard, cols_of, number_of, point_count}
use Rattle.kb_geometry.specs.Capture.{Position, cell_at, is_inside, with_rect}
use Rattle.kb_geometry.proofs.Shapes.{number_of-lt-count}

-- the four tests of a point
abbrev pub tests : Rect → Point → Bool
tests r p = (nat_le r.x0 p.x) && (nat_le p.x r.x1) && (nat_le r.y0 p.y) && (nat_le p.y r.y1)

four_true : (a b c d : Bool) → (a && b && c && d) ≡ true → (a ≡ true) × (b ≡ true) × (c ≡ true) × (d ≡ true)
four_true true true true true e = (refl, refl, refl, refl)
four_true true true true false e = cc
four_true true true false d e = cc
four_true true false c d e = cc
four_true false b c d e = cc

tests-inside : (r : Rect) (p : Point) → tests r p ≡ true → IsInside r p
tests-inside r p e =
    let h = four_true (nat_le r.x0 p.x) (nat_le p.x r.x1) (nat_le r.y0 p.y) (nat_le p.y r.y1) e in
    (leb-true r.x0 p.x h.0, leb-true p.x r.x1 h.1, leb-true r.y0 p.y h.2, leb-true p.y r.y1 h.3)

inside-tests : (r : Rect) (p : Point) → IsInside r p → tests r p ≡ true
inside-tests r p h = rw (le-leb r.x0 p.x h.0, le-leb p.x r.x1 h.1, le-leb r.y0 p.y h.2, le-leb p.y r.y1 h.3) refl

module _ (shape : Shape) (position : Position) (stone : Cell) (r : Rect) (p : Point) (on : IsOnBoard shape p) where
  is_inside-tests : is_inside shape r (number_of shape p) ≡ tests r p
  is_inside-tests = rw (mod-mul-add p.y (cols_of shape) p.x on.0, div-mul-add p.y (cols_of shape) p.x on.0) refl

  cell-tests : cell_at (with_rect shape position stone r) (number_of shape p) ≡ cond (tests r p) stone (cell_at position (number_of shape p))
  cell-tests =
      get_or-map-range_with_len (λ q. cond (is_inside shape r q) stone (cell_at position q)) 0 (point_count shape) (number_of shape p) (number_of shape p) cell.Empty (number_of-lt-count shape p on) (zero-add (number_of shape p))
      ∙ ap (λ b. cond b stone (cell_at position (number_of shape p))) is_inside-tests

  pub with_rect-inside : IsInside r p → cell_at (with_rect shape position stone r) (number_of shape p) ≡ stone
  with_rect-inside h = rw (inside-tests r p h) at cell-tests

  outside-tests : ¬ IsInside r p → tests r p ≡ false
  outside-tests away = elim (cases_Bool (tests r p)) [ inl e ↦ absurd (away (tests-inside r p e)) | inr e ↦ e ]

  pub with_rect-outside : ¬ IsInside r p → cell_at (with_rect shape position stone r) (number_of shape p) ≡ cell_at position (number_of shape p)
  with_rect-outside away = rw (outside-tests away) at cell-tests
