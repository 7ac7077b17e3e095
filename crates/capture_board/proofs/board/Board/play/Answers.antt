use Rattle.std.proofs.Common.{◌<◌, length, take}
use Rattle.kb_geometry.specs.Board.{point_count}
use Rattle.capture_board.specs.Changes.{LeadFrom}
use Rattle.capture_board.proofs.PointSets.{All-from_contains}
use Rattle.capture_board.proofs.ChangedPoints.{AreListed-changed, changed-lt}
use Rattle.capture_board.proofs.board.Board.play.Goals as goal

pub list_changes-requires-clause-on_board : goal.list_changes-requires-clause-on_board
list_changes-requires-clause-on_board c =
    let s = c.self.inside in
    let l = c.changes.inside in
    let base = c.requires.leads.0 in
    let now = take (point_count s.shape) s.cells in
    let after = take (point_count s.shape) c.play_in_room.new.room in
    let lead : LeadFrom base l.room now = rw (← c.changes.view_is, ← c.self.view_is) at c.requires.leads.1 in
    let are = c.play_in_room.ensures.noted base (AreListed-changed base now l.changed l.room c.changes.invariant lead) in
    rw (c.from-count.ensures, c.count.ensures.value) (All-from_contains (λ q. q < length after) c.play_in_room.new.changed.points (changed-lt base after c.play_in_room.new.changed are))

pub returns-in-Some-clause-changes : goal.returns-in-Some-clause-changes
returns-in-Some-clause-changes c =
    let s = c.self.inside in
    let l = c.changes.inside in
    let now = take (point_count s.shape) s.cells in
    λ base led.
    let lead : LeadFrom base l.room now = rw (← c.changes.view_is, ← c.self.view_is) at led in
    let are = c.play_in_room.ensures.noted base (AreListed-changed base now l.changed l.room c.changes.invariant lead) in
    rw (c.from-count.ensures, c.count.ensures.value) at (c.list_changes.ensures.lead base (rw (c.from-count.ensures, c.count.ensures.value) are))
