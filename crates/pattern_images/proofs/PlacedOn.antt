-- Each result lies on the board.
use Rattle.std.proofs.Common.{ℕ, ◌+◌, ◌<◌, ◌≤◌, sym, subst, arith}
use Rattle.std.proofs.Math.Nat.{mod-lt}
use Rattle.kb_geometry.specs.declared.shape.Shape.{Shape}
use Rattle.kb_geometry.specs.declared.shape.Point.{Point}
use Rattle.kb_geometry.specs.Board.{cols_of, rows_of}
use Rattle.kb_geometry.specs.Symmetry.{symmetry_of, IsAllowed}
use Rattle.kb_geometry.proofs.Symmetries.{each_symmetry, IsTurned}
use Rattle.pattern_images.specs.declared.query.Query.{Query}
use Rattle.pattern_images.specs.ImageList.{IsPlacedOn}
use Rattle.pattern_images.specs.Pattern.{size_of}
use Rattle.pattern_images.specs.Placements.{Placement, IsResult}
use Rattle.pattern_images.specs.Turned.{upper_left}
use Rattle.pattern_images.proofs.Frames.{Fits}
use Rattle.pattern_images.proofs.Turned.{IsTurned-turned_size, image-only, turned_size}

-- the turned rectangle lies on the board
upper_left-fits : (shape size to : Shape) (base : Point) → Fits shape size base → (n : ℕ) → n < 8 → IsAllowed n shape → IsTurned n size to →
    ((upper_left n shape size base).x + cols_of to ≤ cols_of shape) × ((upper_left n shape size base).y + rows_of to ≤ rows_of shape)
upper_left-fits shape size to base fits = each_symmetry (λ n. IsAllowed n shape → IsTurned n size to → ((upper_left n shape size base).x + cols_of to ≤ cols_of shape) × ((upper_left n shape size base).y + rows_of to ≤ rows_of shape))
    (λ a t. (omega arith, omega arith))
    (λ a t. (omega arith, omega arith))
    (λ a t. (omega arith, omega arith))
    (λ a t. (omega arith, omega arith))
    (λ a t. (omega arith, omega arith))
    (λ a t. (omega arith, omega arith))
    (λ a t. (omega arith, omega arith))
    (λ a t. (omega arith, omega arith))

pub IsPlacedOn-result : (query : Query) (shape : Shape) (p : Placement) → IsResult query shape p → IsPlacedOn shape p
IsPlacedOn-result query shape p result =
    let n : ℕ = symmetry_of p.label in
    let to = turned_size n (size_of query.pattern) in
    let fits : Fits shape (size_of query.pattern) result.base = (result.at_base.columns, result.at_base.rows) in
    let at = upper_left-fits shape (size_of query.pattern) to result.base fits n (mod-lt p.label (omega arith)) result.label.allowed (IsTurned-turned_size n (size_of query.pattern)) in
    subst (IsPlacedOn shape) (sym (image-only query shape result.base p fits result.label.allowed result.image))
    (record { some_column = to.in_range.0.0; some_row = to.in_range.1.0; columns = at.0; rows = at.1 })
