use Rattle.kb_geometry.specs.declared.stone.Cell.TheVariants as cell
use Rattle.final_index.proofs.AddedChanges.{other_than_empty, other_than_black, other_than_white, inserted_only}
use Rattle.final_index.proofs.ever_sets.EverSets.insert.Goals as goal

pub returns-in-Empty : goal.returns-in-Empty
returns-in-Empty c = inserted_only c.args.self.now _ c.args.cell cell.Empty c.in-Empty.is c.args.point (other_than_empty c.args.self.now c.insert.new.self) c.insert.ensures

pub returns-in-Black : goal.returns-in-Black
returns-in-Black c = inserted_only c.args.self.now _ c.args.cell cell.Black c.in-Black.is c.args.point (other_than_black c.args.self.now c.insert-in-Black.new.self) c.insert-in-Black.ensures

pub returns-in-White : goal.returns-in-White
returns-in-White c = inserted_only c.args.self.now _ c.args.cell cell.White c.in-White.is c.args.point (other_than_white c.args.self.now c.insert-in-White.new.self) c.insert-in-White.ensures
