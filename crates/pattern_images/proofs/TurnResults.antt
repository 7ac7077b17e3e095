-- The results under a label are the placements of its turn.
use Rattle.std.proofs.Common.{◌≡◌, ℕ, ◌<◌, ◌↔◌, List, length, refl, sym, ap, ◌∙◌, subst}
use Rattle.kb_geometry.specs.declared.shape.Shape.{Shape}
use Rattle.kb_geometry.specs.declared.shape.Point.{Point}
use Rattle.kb_geometry.specs.declared.shape.Rect.{Rect}
use Rattle.kb_geometry.specs.Board.{cols_of, rows_of, IsInside}
use Rattle.kb_geometry.specs.Symmetry.{number_of_label, symmetry_of, point_of}
use Rattle.kb_geometry.proofs.Shapes.{shape_same}
use Rattle.kb_geometry.proofs.Symmetries.{IsTurned}
use Rattle.pattern_images.specs.declared.query.Query.{Query}
use Rattle.pattern_images.specs.declared.turn.Turn.{Turn}
use Rattle.pattern_images.specs.Grid.{Grid}
use Rattle.pattern_images.specs.ImageList.{grid_at}
use Rattle.pattern_images.specs.Pattern.{grid_of, size_of}
use Rattle.pattern_images.specs.Placements.{Placement, IsImage, IsResult}
use Rattle.pattern_images.specs.Query.{IsBasePlace, IsLabelOf}
use Rattle.pattern_images.specs.Turned.{turned_cell, grid_by, upper_left}
use Rattle.pattern_images.specs.Turns.{AreBasePlaces, IsTurnOf}
use Rattle.pattern_images.proofs.Frames.{Fits}
use Rattle.pattern_images.proofs.Turned.{IsTurned-turned_size, image_of, image_of-image, image-only, same_placement, turned_grid, turned_size}

-- what is known of a turn that was made for the label with a number
pub record IsMadeFor (query : Query) (shape : Shape) (base : Rect) (grids : List Grid) (turn : Turn) (to : Shape) (number : ℕ) : Type 0 where
  pub is_label : IsLabelOf query shape number
  pub turned : IsTurned (symmetry_of number) (size_of query.pattern) to
  pub grid : grid_at grids turn.class ≡ grid_by to (turned_cell number to (grid_of query.pattern))
  pub corners : (q : Point) → IsInside turn.corners q ↔ ((p : Point) × IsInside base p × (upper_left (symmetry_of number) shape (size_of query.pattern) p ≡ q))

module _ (query : Query) (shape : Shape) (base : Rect) (grids : List Grid) (turn : Turn) (to : Shape) (bases : AreBasePlaces query shape base) where
  module _ (p : Placement) (made : IsMadeFor query shape base grids turn to p.label) where
    -- the turn has the cells of the pattern under the label
    its_grid : turned_grid p.label query.pattern ≡ grid_at grids turn.class
    its_grid =
        let size = turned_size (symmetry_of p.label) (size_of query.pattern) in
        let is : IsTurned (symmetry_of p.label) (size_of query.pattern) size = IsTurned-turned_size (symmetry_of p.label) (size_of query.pattern) in
        let same : size ≡ to = shape_same size to (is.0 ∙ sym made.turned.0) (is.1 ∙ sym made.turned.1) in
        ap (λ (s : Shape). grid_by s (turned_cell p.label s (grid_of query.pattern))) same ∙ sym made.grid

    result-inside : IsResult query shape p → IsInside turn.corners (point_of p.x p.y) × (p.grid ≡ grid_at grids turn.class)
    result-inside result =
        let fits : Fits shape (size_of query.pattern) result.base = (result.at_base.columns, result.at_base.rows) in
        let is : p ≡ image_of query shape p.label result.base = image-only query shape result.base p fits result.label.allowed result.image in
        let at : upper_left (symmetry_of p.label) shape (size_of query.pattern) result.base ≡ point_of p.x p.y = ap (λ (q : Placement). point_of q.x q.y) (sym is) in (
          (made.corners (point_of p.x p.y)).1 (result.base, (bases.points result.base).1 result.at_base, at),
          ap (λ (q : Placement). q.grid) is ∙ its_grid,
        )

    result-from : IsInside turn.corners (point_of p.x p.y) → p.grid ≡ grid_at grids turn.class → IsResult query shape p
    result-from inside grid =
        let (b, within, at) = (made.corners (point_of p.x p.y)).0 inside in
        let at_base : IsBasePlace query shape b = (bases.points b).0 within in
        let fits : Fits shape (size_of query.pattern) b = (at_base.columns, at_base.rows) in
        let is : p ≡ image_of query shape p.label b = same_placement p (image_of query shape p.label b) refl
        (ap (λ (q : Point). q.x) (sym at)) (ap (λ (q : Point). q.y) (sym at)) (grid ∙ sym its_grid) in
        record {
          board = bases.board;
          label = made.is_label;
          base = b;
          at_base = at_base;
          image = subst (λ (q : Placement). IsImage query shape b q) (sym is) (image_of-image query shape p.label b fits made.is_label.allowed);
        }

  pub IsTurnOf-made : turn.class < length grids → IsMadeFor query shape base grids turn to (number_of_label turn.label) → IsTurnOf query shape grids (number_of_label turn.label) turn
  IsTurnOf-made class made = record {
    label = refl;
    class = class;
    results = λ p label.
        let its : IsMadeFor query shape base grids turn to p.label = subst (IsMadeFor query shape base grids turn to) (sym label) made in
        ((λ result. result-inside p its result), (λ h. result-from p its h.0 h.1));
  }

-- the same, from what the calls say of the symmetry and of the size
pub made-from : (query : Query) (shape : Shape) (base : Rect) (grids : List Grid) (turn : Turn) (to : Shape) (number n : ℕ) (size : Shape) →
    n ≡ symmetry_of number → cols_of size ≡ (grid_of query.pattern).cols → rows_of size ≡ (grid_of query.pattern).rows →
    IsLabelOf query shape number → IsTurned n size to → grid_at grids turn.class ≡ grid_by to (turned_cell number to (grid_of query.pattern)) →
    ((q : Point) → IsInside turn.corners q ↔ ((p : Point) × IsInside base p × (upper_left n shape size p ≡ q))) →
    IsMadeFor query shape base grids turn to number
made-from query shape base grids turn to number n size same cols rows is_label turned grid corners =
    let whole : size ≡ size_of query.pattern = shape_same size (size_of query.pattern) cols rows in
    record {
      is_label = is_label;
      turned = subst (λ (m : ℕ). IsTurned m (size_of query.pattern) to) same (subst (λ (s : Shape). IsTurned n s to) whole turned);
      grid = grid;
      corners = subst (λ (m : ℕ). (q : Point) → IsInside turn.corners q ↔ ((p : Point) × IsInside base p × (upper_left m shape (size_of query.pattern) p ≡ q))) same
          (subst (λ (s : Shape). (q : Point) → IsInside turn.corners q ↔ ((p : Point) × IsInside base p × (upper_left n shape s p ≡ q))) whole corners);
    }
