-- One row more comes behind those so far.
use Rattle.pattern_images.specs.ImageList.{grid_at}
use Rattle.line_matcher.proofs.RowLists.{HaveRowsTo-more}
use Rattle.line_matcher.proofs.grid_rows.add_rows.Goals as goal

pub loop-dy-preserved : goal.loop-dy-preserved
loop-dy-preserved c =
    HaveRowsTo-more (grid_at c.args.images.now.grids c.args.class) c.args.rows.now.items c.loop-dy.dy c.loop-dy.rows.items c.push.new.self.items c.row_mask.result c.loop-dy.invariant c.row_mask.ensures c.in_ok-push.ensures.items
