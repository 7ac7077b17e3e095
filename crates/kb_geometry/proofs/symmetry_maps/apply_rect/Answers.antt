-- The corners of the result are those between the images of two opposite corners.
use Rattle.std.proofs.Common.{◌≡◌, ◌↔◌, subst}
use Rattle.kb_geometry.specs.declared.shape.Rect.{Rect}
use Rattle.kb_geometry.specs.declared.shape.Point.{Point}
use Rattle.kb_geometry.specs.Board.{IsInside}
use Rattle.kb_geometry.specs.Symmetry.{moved, number_of_symmetry}
use Rattle.kb_geometry.proofs.Symmetries.{moved_rect, moved_rect-image}
use Rattle.kb_geometry.proofs.symmetry_maps.apply_rect.Goals as goal

pub returns-clause-image : goal.returns-clause-image
returns-clause-image c =
    let same : moved_rect (number_of_symmetry c.args.s) c.args.shape c.args.r ≡ record { x0 = c.min.result; y0 = c.min-2.result; x1 = c.max.result; y1 = c.max-2.result } = cc in
    subst (λ (to : Rect). (q : Point) → IsInside to q ↔ ((p : Point) × IsInside c.args.r p × (moved (number_of_symmetry c.args.s) c.args.shape p ≡ q))) same
    (moved_rect-image c.args.shape c.args.r (number_of_symmetry c.args.s) c.args.s.in_range c.requires.allowed c.requires.on_board)
