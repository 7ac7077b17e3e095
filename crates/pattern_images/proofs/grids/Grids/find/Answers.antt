-- An element of the list stands at one of the numbers that were tried.
use Rattle.std.proofs.Common.{◌<◌, ◌∙◌, arith}
use Rattle.std.proofs.lemmas.List.{get_or_default}
use Rattle.kb_geometry.specs.Board.{cols_of, rows_of}
use Rattle.pattern_images.specs.ImageList.{no_grid}
use Rattle.pattern_images.proofs.grids.Grids.find.Goals as goal

pub returns-clause-none : goal.returns-clause-none
returns-clause-none c = λ none has.
    let tried : has.0 < c.loop-number.number = omega arith in
    c.loop-number.invariant has.0 tried
    (get_or_default c.args.self.now has.0 no_grid (record { cols = cols_of c.args.size; rows = rows_of c.args.size; cells = c.args.cells.now }) has.1 ∙ has.2)
