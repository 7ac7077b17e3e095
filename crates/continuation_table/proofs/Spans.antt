-- The numbers of the points in a placement's rectangle.
use Rattle.std.proofs.Common.{◌≡◌, ℕ, ◌+◌, ◌-◌, ◌*◌, ◌<◌, ◌≤◌, ◌⊎◌, inl, inr, sym, subst, arith}
use Rattle.std.proofs.Math.Nat.{mul-le-mul_right}
use Rattle.kb_geometry.specs.declared.shape.Shape.{Shape}
use Rattle.kb_geometry.specs.declared.stone.Change.{Change}
use Rattle.kb_geometry.specs.Board.{cols_of, number_of}
use Rattle.pattern_images.specs.declared.hit.Place.{Place}
use Rattle.pattern_images.specs.ImageList.{IsPlaceOf}
use Rattle.pattern_images.specs.Placements.{Placement}
use Rattle.continuation_table.specs.Descending.{AllowsChange, IsSpan}

-- row by row, a point to the right of another one or below it has no lesser number
number-le : (cols x y px py : ℕ) → x ≤ px → y ≤ py → y * cols + x ≤ py * cols + px
number-le cols x y px py column row = omega (arith, mul-le-mul_right {m = y} {n = py} cols row)

-- the numbers of the upper left and the lower right point of the rectangle are its span
pub span-corners : (shape : Shape) (placement : Placement) (place : Place) → IsPlaceOf placement place → (first last : ℕ) →
    first ≡ place.y * cols_of shape + place.x →
    last ≡ (place.y + (place.rows - 1)) * cols_of shape + (place.x + (place.cols - 1)) →
    IsSpan shape placement first last
span-corners shape placement place is first last upper lower p covers = (
  subst (λ (n : ℕ). n ≤ number_of shape p) (sym upper)
      (number-le (cols_of shape) place.x place.y p.x p.y (omega (arith, covers.0, is.column)) (omega (arith, covers.2, is.row))),
  subst (λ (n : ℕ). number_of shape p ≤ n) (sym lower)
      (number-le (cols_of shape) p.x p.y (place.x + (place.cols - 1)) (place.y + (place.rows - 1))
      (omega (arith, covers.1, is.column, is.columns)) (omega (arith, covers.3, is.row, is.rows))),
)

not_outside : (first last number point : ℕ) → first ≤ number → number ≤ last → number ≡ point → (point < first) ⊎ (last < point) → ⊥
not_outside first last number point from to same (inl before) = omega arith
not_outside first last number point from to same (inr behind) = omega arith

-- a placement allows all changes outside its span
pub allows-outside : (shape : Shape) (placement : Placement) (first last : ℕ) → IsSpan shape placement first last → (change : Change) →
    (change.point < first) ⊎ (last < change.point) → AllowsChange shape placement change
allows-outside shape placement first last span change outside p on here covers =
    let inside = span p covers in
    absurd (not_outside first last (number_of shape p) change.point inside.0 inside.1 here outside)
