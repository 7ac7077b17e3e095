use Rattle.kb_geometry.specs.declared.stone.Cell.TheVariants as cell
use Rattle.capture_board.proofs.CellSetLemmas.{other_than_empty, other_than_black, other_than_white, removed_only}
use Rattle.capture_board.proofs.cell_sets.PointsByCell.remove.Goals as goal

pub returns-in-Empty : goal.returns-in-Empty
returns-in-Empty c = removed_only c.args.self.now _ c.args.cell cell.Empty c.in-Empty.is c.args.point (other_than_empty c.args.self.now c.remove.new.self) c.remove.ensures

pub returns-in-Black : goal.returns-in-Black
returns-in-Black c = removed_only c.args.self.now _ c.args.cell cell.Black c.in-Black.is c.args.point (other_than_black c.args.self.now c.remove-in-Black.new.self) c.remove-in-Black.ensures

pub returns-in-White : goal.returns-in-White
returns-in-White c = removed_only c.args.self.now _ c.args.cell cell.White c.in-White.is c.args.point (other_than_white c.args.self.now c.remove-in-White.new.self) c.remove-in-White.ensures
