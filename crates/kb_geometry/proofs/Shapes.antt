-- The points of a board: how many there are at most, and the numbers that they have.
use Rattle.std.proofs.Common.{◌≡◌, ℕ, ◌*◌, ◌≤◌, ◌<◌, ap, arith, subst}
use Rattle.std.proofs.Math.Bridge.{le_prop}
use Rattle.std.proofs.Math.Nat.{mul-le-mul_left, mul-le-mul_right}
use Rattle.std.proofs.lemmas.Nat.{mul-add-lt}
use Rattle.kb_geometry.specs.declared.shape.Shape.{Shape}
use Rattle.kb_geometry.specs.declared.shape.Point.{Point}
use Rattle.kb_geometry.specs.declared.shape.TheConstants.{MAX_POINTS, MAX_SIDE}
use Rattle.kb_geometry.specs.Board.{IsOnBoard, cols_of, number_of, point_count, rows_of}
use Rattle.kb_geometry.specs.Side.{IsSide}

product_within : (a b m : ℕ) → a ≤ m → b ≤ m → a * b ≤ m * m
product_within a b m h k =
    let p : a * b ≤ a * m = mul-le-mul_left a k in
    let q : a * m ≤ m * m = mul-le-mul_right m h in
    omega arith

-- a board has no more points than the greatest one
pub point_count-le-most : (shape : Shape) → point_count shape ≤ MAX_POINTS
point_count-le-most shape = product_within (cols_of shape) (rows_of shape) MAX_SIDE shape.in_range.0.1 shape.in_range.1.1

-- the number of a point of the board is below the count
pub number_of-lt-count : (shape : Shape) (p : Point) → IsOnBoard shape p → number_of shape p < point_count shape
number_of-lt-count shape p on = mul-add-lt p.y (cols_of shape) p.x (rows_of shape) on.1 on.0

-- ---- a shape is known by its sides

sides_same : (cols rows : ℕ) (one other : IsSide cols × IsSide rows) → one ≡ other
sides_same cols rows one other = let single : IsProp (IsSide cols × IsSide rows) = hlevel (le_prop) in single one other

pub shape_same : (a b : Shape) → cols_of a ≡ cols_of b → rows_of a ≡ rows_of b → a ≡ b
shape_same a b cols rows =
    subst (λ (d : ℕ). (sides : IsSide d × IsSide b.rows) → a ≡ record { cols = d; rows = b.rows; in_range = sides }) cols
    (subst (λ (e : ℕ). (sides : IsSide a.cols × IsSide e) → a ≡ record { cols = a.cols; rows = e; in_range = sides }) rows
    (λ sides. ap (λ (own : IsSide a.cols × IsSide a.rows). record { cols = a.cols; rows = a.rows; in_range = own }) (sides_same a.cols a.rows a.in_range sides)))
    b.in_range
