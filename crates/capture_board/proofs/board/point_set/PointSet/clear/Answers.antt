use Rattle.std.proofs.Common.{◌<◌, length, take}
use Rattle.capture_board.proofs.PointSets.{All-from_contains, IsPointSet-member_lt, IsPointSet-cleared}
use Rattle.capture_board.proofs.board.point_set.PointSet.clear.Goals as goal

pub unmark-requires : goal.unmark-requires
unmark-requires c =
    let s = c.self.inside in
    All-from_contains (λ q. q < length s.has) (take s.len s.points) (IsPointSet-member_lt s.points s.len s.has c.self.invariant)

pub invariant_of-self : goal.invariant_of-self
invariant_of-self c =
    let s = c.self.inside in
    IsPointSet-cleared s.points s.len s.has c.self.invariant c.unmark.new.has c.unmark.ensures
