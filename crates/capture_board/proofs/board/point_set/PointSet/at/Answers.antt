use Rattle.std.proofs.Common.{arith}
use Rattle.capture_board.proofs.PointSets.{IsPointSet-below}
use Rattle.capture_board.proofs.board.point_set.PointSet.at.Goals as goal

pub returns-clause-in_range : goal.returns-clause-in_range
returns-clause-in_range c =
    let s = c.self.inside in
    let below = IsPointSet-below s.points s.len s.has c.self.invariant c.args.index (rw c.self.view_is c.requires) in
    omega arith
