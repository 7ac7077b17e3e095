use Rattle.std.proofs.Common.{arith}
use Rattle.capture_board.proofs.PointSets.{IsPointSet-room, IsPointSet-more, IsWithPoint-more}
use Rattle.capture_board.proofs.board.point_set.PointSet.insert.Goals as goal

pub bounds-self-inside-self-inside : goal.bounds-self-inside-self-inside
bounds-self-inside-self-inside c =
    let s = c.self.inside in
    omega (arith, IsPointSet-room s.points s.len s.has c.self.invariant c.from-index.result (omega arith) c.if-not-self-index.true)

pub invariant_of-self : goal.invariant_of-self
invariant_of-self c =
    let s = c.self.inside in
    let room = IsPointSet-room s.points s.len s.has c.self.invariant c.from-index.result (omega arith) c.if-not-self-index.true in
    rw (← c.from-index.ensures) (IsPointSet-more s.points s.len s.has c.self.invariant c.from-index.result (omega arith) (omega arith) c.if-not-self-index.true)

pub returns-then-not-self-index : goal.returns-then-not-self-index
returns-then-not-self-index c =
    let s = c.self.inside in
    let room = IsPointSet-room s.points s.len s.has c.self.invariant c.from-index.result (omega arith) c.if-not-self-index.true in
    rw (← c.self.view_is, ← c.from-index.ensures) (IsWithPoint-more s.points s.len s.has c.self.invariant c.from-index.result (omega arith) (omega arith) c.if-not-self-index.true)
