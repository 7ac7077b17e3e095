-- A pattern is told by its cells: what is known of its sides and of their count adds nothing.
use Rattle.std.proofs.Common.{◌≡◌, ◌*◌, ◌∙◌, length, ap, subst}
use Rattle.std.proofs.Math.Bridge.{le_prop}
use native.Mathlib.Nat.{ℕ_set}
use Rattle.kb_geometry.specs.Side.{IsSide}
use Rattle.pattern_images.specs.declared.pattern.Pattern.{Pattern}
use Rattle.pattern_images.specs.Grid.{Grid}
use Rattle.pattern_images.specs.Pattern.{grid_of}

abbrev Sides : Grid → Type 0
Sides grid = IsSide grid.cols × IsSide grid.rows

abbrev Filled : Grid → Type 0
Filled grid = length grid.cells ≡ grid.cols * grid.rows

sides_same : (grid : Grid) (one other : Sides grid) → one ≡ other
sides_same grid one other = let single : IsProp (IsSide grid.cols × IsSide grid.rows) = hlevel (le_prop) in single one other

filled_same : (grid : Grid) (one other : Filled grid) → one ≡ other
filled_same grid one other = let single : IsProp (length grid.cells ≡ grid.cols * grid.rows) = hlevel (ℕ_set) in single one other

abbrev pattern_by : (grid : Grid) → Sides grid → Filled grid → Pattern
pattern_by grid sides filled = record { cols = grid.cols; rows = grid.rows; cells = grid.cells; in_range = sides; filled = filled }

pub pattern_same : (p q : Pattern) → grid_of p ≡ grid_of q → p ≡ q
pattern_same p q same =
    subst (λ (grid : Grid). (sides : Sides grid) (filled : Filled grid) → p ≡ pattern_by grid sides filled) same
    (λ sides filled.
    ap (λ (s : Sides (grid_of p)). pattern_by (grid_of p) s p.filled) (sides_same (grid_of p) p.in_range sides)
    ∙ ap (λ (f : Filled (grid_of p)). pattern_by (grid_of p) sides f) (filled_same (grid_of p) p.filled filled))
    q.in_range q.filled
