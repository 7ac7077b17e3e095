-- The rectangle was not found, so it is a new one.
use Rattle.std.proofs.Common.{refl}
use Rattle.kb_geometry.specs.Board.{cols_of, rows_of}
use Rattle.pattern_images.proofs.Growths.{HasGrown-pushed}
use Rattle.pattern_images.proofs.grids.Grids.number.Goals as goal

pub returns-clause-grown : goal.returns-clause-grown
returns-clause-grown c =
    HasGrown-pushed c.args.self.now c.push.new.self (record { cols = cols_of c.args.size; rows = rows_of c.args.size; cells = c.args.cells.now }) (c.in_default.ensures.none refl) c.in_ok-push.ensures
