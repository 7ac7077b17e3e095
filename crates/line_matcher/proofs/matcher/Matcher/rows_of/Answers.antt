use Rattle.pattern_images.specs.ImageList.{placement_at}
use Rattle.line_matcher.proofs.Beginning.{placement_rows}
use Rattle.line_matcher.proofs.matcher.Matcher.rows_of.Goals as goal

pub returns-clause-rows : goal.returns-clause-rows
returns-clause-rows c =
    let images = c.args.self.now.images.now in
    placement_rows images.grids c.args.self.now.rows c.class_of.result (placement_at images.placements c.args.i).grid c.rows.result.now c.args.self.now.made.rows_are c.class_of.ensures.in_range c.class_of.ensures.cells c.rows.ensures
