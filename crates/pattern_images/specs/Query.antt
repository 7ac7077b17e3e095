-- Where a query looks for its pattern: on which boards, under which labels, and from which base
-- places.
use Rattle.std.specs.Prelude.{◌≡◌, ℕ, ◌+◌, ◌<◌, ◌≤◌, IsTrue, IfSome}
use Rattle.kb_geometry.specs.declared.shape.Shape.{Shape}
use Rattle.kb_geometry.specs.declared.shape.Point.{Point}
use Rattle.kb_geometry.specs.Board.{cols_of, rows_of, IsInside}
use Rattle.kb_geometry.specs.Symmetry.{symmetry_of, IsAllowed, IsExchanging}
use Rattle.pattern_images.specs.declared.query.Query.{Query}
use Rattle.pattern_images.specs.Pattern.{grid_of}

-- the query looks on boards of this shape: it names this board, or none
abbrev pub IsForBoard : Query → Shape → Type 0
IsForBoard query shape = IfSome query.board (λ (board : Shape). board ≡ shape)

-- The label with this number is one of the query on a board of this shape. Its symmetry is one of
-- the board, and the identity if the query is fixed. It doesn't exchange the colours if the query
-- is for the same colours.
pub record IsLabelOf (query : Query) (shape : Shape) (label : ℕ) : Type 0 where
  pub in_range : label < 16
  pub allowed : IsAllowed (symmetry_of label) shape
  pub unmoved : IsTrue query.fixed → symmetry_of label ≡ 0
  pub same_colours : IsTrue query.same → ¬ IsExchanging label

-- A base place: the pattern with its upper left point there lies on the board, and the point lies
-- in the query's rectangle where it has one.
pub record IsBasePlace (query : Query) (shape : Shape) (base : Point) : Type 0 where
  pub columns : base.x + (grid_of query.pattern).cols ≤ cols_of shape
  pub rows : base.y + (grid_of query.pattern).rows ≤ rows_of shape
  pub within : IfSome query.at (λ at. IsInside at base)
