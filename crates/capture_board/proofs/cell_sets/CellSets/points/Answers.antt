use Rattle.kb_geometry.specs.declared.stone.Cell.TheVariants as cell
use Rattle.capture_board.proofs.CellSetLemmas.{points_shown}
use Rattle.capture_board.proofs.cell_sets.CellSets.points.Goals as goal

pub returns-in-Empty : goal.returns-in-Empty
returns-in-Empty c = points_shown c.self.inside.shape c.self.inside.cells c.self.inside.points c.self.invariant c.args.self.now c.self.view_is c.args.cell cell.Empty c.in-Empty.is

pub returns-in-Black : goal.returns-in-Black
returns-in-Black c = points_shown c.self.inside.shape c.self.inside.cells c.self.inside.points c.self.invariant c.args.self.now c.self.view_is c.args.cell cell.Black c.in-Black.is

pub returns-in-White : goal.returns-in-White
returns-in-White c = points_shown c.self.inside.shape c.self.inside.cells c.self.inside.points c.self.invariant c.args.self.now c.self.view_is c.args.cell cell.White c.in-White.is
