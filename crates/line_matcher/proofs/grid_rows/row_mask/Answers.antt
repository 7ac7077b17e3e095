-- One cell more.
use Rattle.std.proofs.Common.{subst}
use Rattle.pattern_images.specs.declared.cell.PatternCell.{PatternCell}
use Rattle.pattern_images.specs.ImageList.{grid_at}
use Rattle.line_matcher.specs.Masks.{IsWithCell}
use Rattle.line_matcher.proofs.RowLists.{IsRowTo-more}
use Rattle.line_matcher.proofs.grid_rows.row_mask.Goals as goal

pub loop-dx-preserved : goal.loop-dx-preserved
loop-dx-preserved c =
    IsRowTo-more (grid_at c.args.images.now.grids c.args.class) c.args.dy c.loop-dx.dx c.loop-dx.row c.with_cell-row.result c.loop-dx.invariant
    (subst (λ (cell : PatternCell). IsWithCell c.loop-dx.row c.loop-dx.dx cell c.with_cell-row.result) c.cell_of.ensures c.with_cell-row.ensures)
