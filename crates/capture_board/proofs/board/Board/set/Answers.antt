use Rattle.std.proofs.Common.{◌≡◌, ℕ, ◌<◌, length, take}
use Rattle.std.proofs.lemmas.List.{length-take-le}
use Rattle.kb_geometry.specs.Capture.{cell_at}
use Rattle.kb_geometry.specs.Board.{point_count}
use Rattle.capture_board.specs.Changes.{LeadFrom}
use Rattle.capture_board.proofs.PointSets.{All-from_contains}
use Rattle.capture_board.proofs.ChangedPoints.{AreListed-changed, AreListedBelow-kept, changed-lt}
use Rattle.capture_board.proofs.Rects.{with_rect-lower}
use Rattle.capture_board.proofs.board.Board.set.Goals as goal

pub list_changes-requires-clause-on_board : goal.list_changes-requires-clause-on_board
list_changes-requires-clause-on_board c =
    let s = c.self.inside in
    let l = c.changes.inside in
    let base = c.requires.leads.0 in
    let now = take (point_count s.shape) s.cells in
    let after = take (point_count s.shape) c.set_in_room.new.room in
    let lead : LeadFrom base l.room now = rw (← c.changes.view_is, ← c.self.view_is) at c.requires.leads.1 in
    let are = c.set_in_room.ensures.noted base (AreListed-changed base now l.changed l.room c.changes.invariant lead) in
    rw (c.from-count.ensures, c.count.ensures.value) (All-from_contains (λ q. q < length after) c.set_in_room.new.changed.points (changed-lt base after c.set_in_room.new.changed are))

pub returns-clause-changes : goal.returns-clause-changes
returns-clause-changes c =
    let s = c.self.inside in
    let l = c.changes.inside in
    let now = take (point_count s.shape) s.cells in
    λ base led.
    let lead : LeadFrom base l.room now = rw (← c.changes.view_is, ← c.self.view_is) at led in
    let are = c.set_in_room.ensures.noted base (AreListed-changed base now l.changed l.room c.changes.invariant lead) in
    rw (c.from-count.ensures, c.count.ensures.value) at (c.list_changes.ensures.lead base (rw (c.from-count.ensures, c.count.ensures.value) are))

pub list_changes-requires-clause-lower : goal.list_changes-requires-clause-lower
list_changes-requires-clause-lower c =
    let s = c.self.inside in
    let l = c.changes.inside in
    let base = c.requires.leads.0 in
    let now = take (point_count s.shape) s.cells in
    let after = take (point_count s.shape) c.set_in_room.new.room in
    let whole : length now ≡ point_count s.shape = length-take-le (point_count s.shape) s.cells c.self.invariant.0 in
    let lead : LeadFrom base l.room now = rw (← c.changes.view_is, ← c.self.view_is) at c.requires.leads.1 in
    let are = c.set_in_room.ensures.noted base (AreListed-changed base now l.changed l.room c.changes.invariant lead) in
    let lower : (q : ℕ) → q < c.number-first.result → cell_at after q ≡ cell_at now q = λ q low. rw c.set_in_room.ensures.set (with_rect-lower s.shape c.args.rect c.args.cell now whole q (rw c.number-first.ensures.value at low)) in
    rw (c.from-count.ensures, c.count.ensures.value) (AreListedBelow-kept base now after l.room c.cut.new.self c.set_in_room.new.changed c.number-first.result lead are lower c.cut.ensures)
