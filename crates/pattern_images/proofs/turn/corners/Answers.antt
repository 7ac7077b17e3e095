-- The covered rectangle is the image of the one that the pattern covers as it goes over its base places.
use Rattle.std.proofs.Common.{refl}
use Rattle.kb_geometry.specs.Board.{rows_of}
use Rattle.kb_geometry.specs.Symmetry.{number_of_symmetry}
use Rattle.pattern_images.proofs.Frames.{covered-wide, covered-high, covered-corners}
use Rattle.pattern_images.proofs.turn.corners.Goals as goal

pub overflow_sub-result-2 : goal.overflow_sub-result-2
overflow_sub-result-2 c = covered-wide c.args.shape c.args.size c.turned-to.result c.args.base (c.requires.columns, c.requires.rows) (c.requires.right, c.requires.bottom)
    (number_of_symmetry c.args.s) c.args.s.in_range c.requires.allowed (c.turned-to.ensures.cols, c.turned-to.ensures.rows) c.apply_rect-covered.result c.cols.result c.rows.result c.cols-2.result (rows_of c.turned-to.result)
    c.cols.ensures.value c.rows.ensures.value c.cols-2.ensures.value refl c.apply_rect-covered.ensures.on_board c.apply_rect-covered.ensures.image

pub overflow_sub-result-4 : goal.overflow_sub-result-4
overflow_sub-result-4 c = covered-high c.args.shape c.args.size c.turned-to.result c.args.base (c.requires.columns, c.requires.rows) (c.requires.right, c.requires.bottom)
    (number_of_symmetry c.args.s) c.args.s.in_range c.requires.allowed (c.turned-to.ensures.cols, c.turned-to.ensures.rows) c.apply_rect-covered.result c.cols.result c.rows.result c.cols-2.result c.rows-2.result
    c.cols.ensures.value c.rows.ensures.value c.cols-2.ensures.value c.rows-2.ensures.value c.apply_rect-covered.ensures.on_board c.apply_rect-covered.ensures.image

pub returns : goal.returns
returns c = covered-corners c.args.shape c.args.size c.turned-to.result c.args.base (c.requires.columns, c.requires.rows) (c.requires.right, c.requires.bottom)
    (number_of_symmetry c.args.s) c.args.s.in_range c.requires.allowed (c.turned-to.ensures.cols, c.turned-to.ensures.rows) c.apply_rect-covered.result c.cols.result c.rows.result c.cols-2.result c.rows-2.result
    c.cols.ensures.value c.rows.ensures.value c.cols-2.ensures.value c.rows-2.ensures.value c.apply_rect-covered.ensures.on_board c.apply_rect-covered.ensures.image
