-- The base places are what the places on the board and the query's rectangle have in common.
use Rattle.std.proofs.Common.{◌≡◌, ℕ, ◌+◌, ◌≤◌, Option, Some, None, arith, subst, sym}
use Rattle.std.specs.Prelude.{MatchOption, IfSome}
use Rattle.kb_geometry.specs.declared.shape.Shape.{Shape}
use Rattle.kb_geometry.specs.declared.shape.Point.{Point}
use Rattle.kb_geometry.specs.declared.shape.Rect.{Rect}
use Rattle.kb_geometry.specs.Board.{cols_of, rows_of, IsInside}
use Rattle.pattern_images.specs.declared.query.Query.{Query}
use Rattle.pattern_images.specs.Pattern.{grid_of}
use Rattle.pattern_images.specs.Query.{IsForBoard, IsBasePlace}
use Rattle.pattern_images.specs.Turns.{AreBasePlaces, HasNoBasePlace, IsCommon}

-- the rectangle from the first point on
abbrev pub up_to : ℕ → ℕ → Rect
up_to x1 y1 = record { x0 = 0; y0 = 0; x1 = x1; y1 = y1 }

module _ (query : Query) (shape : Shape) (at : Rect) (is : query.at ≡ Some at) (board : IsForBoard query shape) (x1 y1 : ℕ)
    (right : x1 + (grid_of query.pattern).cols ≡ cols_of shape) (bottom : y1 + (grid_of query.pattern).rows ≡ rows_of shape) where
  base_at : (p : Point) → IsBasePlace query shape p → IsInside (up_to x1 y1) p × IsInside at p
  base_at p base =
      let columns : p.x + (grid_of query.pattern).cols ≤ cols_of shape = base.columns in
      let rows : p.y + (grid_of query.pattern).rows ≤ rows_of shape = base.rows in
      ((omega arith, omega arith, omega arith, omega arith), subst (λ (o : Option Rect). IfSome o (λ r. IsInside r p)) is base.within)

  at_base : (p : Point) → IsInside (up_to x1 y1) p → IsInside at p → IsBasePlace query shape p
  at_base p inside within = record { columns = omega arith; rows = omega arith; within = subst (λ (o : Option Rect). IfSome o (λ r. IsInside r p)) (sym is) within }

  -- what two rectangles have in common
  pub common_bases : (o : Option Rect) → MatchOption o ((p : Point) → IsInside (up_to x1 y1) p → IsInside at p → ⊥) (IsCommon (up_to x1 y1) at) →
      MatchOption o (HasNoBasePlace query shape) (AreBasePlaces query shape)
  common_bases None none = λ p _ base. none p (base_at p base).0 (base_at p base).1
  common_bases (Some r) common =
      let first = (common.points (record { x = r.x0; y = r.y0 })).0 (omega arith, omega (arith, common.columns), omega arith, omega (arith, common.rows)) in
      let last = (common.points (record { x = r.x1; y = r.y1 })).0 (omega (arith, common.columns), omega arith, omega (arith, common.rows), omega arith) in
      record {
        board = board;
        columns = common.columns;
        rows = common.rows;
        right = omega arith;
        bottom = omega arith;
        points = λ p. ((λ inside. at_base p ((common.points p).0 inside).0 ((common.points p).0 inside).1), (λ base. (common.points p).1 (base_at p base)));
      }
