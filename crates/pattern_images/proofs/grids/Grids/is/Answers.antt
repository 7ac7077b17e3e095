-- The tests of both sides and of the cells decide it.
use Rattle.pattern_images.specs.ImageList.{grid_at}
use Rattle.std.proofs.lemmas.Slice.Eq.{slice_eq-Decides}
use Rattle.pattern_images.proofs.Cells.{Decides-cell}
use Rattle.pattern_images.proofs.StoredGrids.{grid_is}
use Rattle.pattern_images.proofs.grids.Grids.is.Goals as goal

pub returns-then-eq : goal.returns-then-eq
returns-then-eq c =
    grid_is (grid_at c.args.self.now c.args.number) c.size.result c.args.size c.cells.result.now c.args.cells.now c.eq-then-eq.result
    c.size.ensures.cols c.size.ensures.rows c.cells.ensures.value c.if-eq.ensures
    (slice_eq-Decides Decides-cell c.cells.result.now c.args.cells.now c.eq-then-eq.result c.eq-then-eq.ensures)
