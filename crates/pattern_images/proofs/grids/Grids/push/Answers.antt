-- The rectangles so far stand as before, and the new one behind them.
use Rattle.std.proofs.Common.{◌++◌, ◌∷◌, [], List, ap, ◌∙◌, rules}
use Rattle.kb_geometry.specs.Board.{cols_of, rows_of}
use Rattle.pattern_images.specs.Grid.{Grid}
use Rattle.pattern_images.proofs.StoredGrids.{stored_grid-pushed}
use Rattle.pattern_images.proofs.grids.Grids.push.Goals as goal

pub returns : goal.returns
returns c =
    stored_grid-pushed c.self.inside.cells.items c.args.cells.now c.extend_from_slice.new.self.items c.self.inside.stored.items c.push.new.self.items c.args.size c.len-start.result
    c.self.invariant c.requires (search rules) c.in_ok-extend_from_slice.ensures.items c.in_ok-push.ensures.items
    ∙ ap (λ (grids : List Grid). grids ++ record { cols = cols_of c.args.size; rows = rows_of c.args.size; cells = c.args.cells.now } ∷ []) c.self.view_is
