use Rattle.std.proofs.Common.{◌<◌, length, arith}
use Rattle.std.specs.Prelude.{Contains}
use Rattle.std.proofs.lemmas.Bool.{OnTrue_at, OnFalse_at}
use Rattle.std.proofs.lemmas.List.{length-set}
use Rattle.kb_geometry.specs.Capture.{IsCaptured, IsSuicide, cell_at}
use Rattle.capture_board.proofs.PointSets.{All-from_contains}
use Rattle.capture_board.proofs.Neighbours.{neighbour-lt-count}
use Rattle.capture_board.proofs.Walks.{walk-lt-count}
use Rattle.capture_board.proofs.Captures.{IsWithout-same, IsWithout-none, captured-lt-count, free_beside, no_suicide, suicide_is}
use Rattle.capture_board.proofs.board.play_on.Goals as goal
use Rattle.capture_board.proofs.board.play_on.Goals.{then-find_surrounded, else-find_surrounded}

pub find_captured-requires-clause-on_board : goal.find_captured-requires-clause-on_board
find_captured-requires-clause-on_board c q h = neighbour-lt-count c.args.shape c.args.point q ((c.neighbours-around.ensures.all q).0 h)

pub breathes-requires : goal.breathes-requires
breathes-requires c q h =
    let same = length-set c.args.cells.now c.args.point c.stone_of.result in
    omega (arith, same, c.take_off.ensures.off.same_length, neighbour-lt-count c.args.shape c.args.point q ((c.neighbours-around.ensures.all q).0 h))

pub take_off-requires-clause-on_board : goal.take_off-requires-clause-on_board
take_off-requires-clause-on_board c =
    let placed = c.put.new.cells in
    let same = length-set c.args.cells.now c.args.point c.stone_of.result in
    All-from_contains (λ q. q < length placed) c.find_captured.new.sets.captured (λ q h. omega (arith, same, captured-lt-count c.args.shape placed c.other_side.result c.args.point q ((c.find_captured.ensures.captured c.args.point c.requires.on_board c.neighbours-around.ensures.all q).0 h)))

pub take_off-requires-then-find_surrounded-clause-on_board : goal.take_off-requires-then-find_surrounded-clause-on_board
take_off-requires-then-find_surrounded-clause-on_board c =
    let between = c.take_off.new.cells in
    let same = length-set c.args.cells.now c.args.point c.stone_of.result in
    let members = OnTrue_at c.if-find_surrounded.true c.find_surrounded.ensures.members in
    All-from_contains (λ q. q < length between) c.find_surrounded.new.group (λ q h. omega (arith, same, c.take_off.ensures.off.same_length, walk-lt-count c.args.shape between (cell_at between c.args.point) ((members q).0 h) c.requires.on_board))

pub returns-then-breathes-clause-played : goal.returns-then-breathes-clause-played
returns-then-breathes-clause-played c =
    let shape = c.args.shape in
    let point = c.args.point in
    let placed = c.put.new.cells in
    let between = c.take_off.new.cells in
    let captures = IsWithout-same (Contains c.find_captured.new.sets.captured) (IsCaptured shape placed c.other_side.result point) placed between (c.find_captured.ensures.captured point c.requires.on_board c.neighbours-around.ensures.all) c.take_off.ensures.off in
    let (q, near, empty) = c.breathes.ensures.0 c.if-breathes.true in
    let free = free_beside shape between point q ((c.neighbours-around.ensures.all q).0 near) empty in
    record {
      between = between;
      captures = rw (c.put.ensures.placed, c.stone_of.ensures, c.other_side.ensures) at captures;
      suicide = IsWithout-none (IsSuicide shape between point) between (no_suicide shape between point free);
    }

pub returns-clause-played : goal.returns-clause-played
returns-clause-played c =
    let shape = c.args.shape in
    let point = c.args.point in
    let placed = c.put.new.cells in
    let between = c.take_off.new.cells in
    let captures = IsWithout-same (Contains c.find_captured.new.sets.captured) (IsCaptured shape placed c.other_side.result point) placed between (c.find_captured.ensures.captured point c.requires.on_board c.neighbours-around.ensures.all) c.take_off.ensures.off in
    let captures_at = rw (c.put.ensures.placed, c.stone_of.ensures, c.other_side.ensures) at captures in
    elim c.if-find_surrounded.branch [
      | then-find_surrounded w ↦
          let none = OnTrue_at w.if-find_surrounded.true c.find_surrounded.ensures.surrounded in
          let members = OnTrue_at w.if-find_surrounded.true c.find_surrounded.ensures.members in
          rw w.cells-is record {
            between = between;
            captures = captures_at;
            suicide = IsWithout-same (Contains c.find_surrounded.new.group) (IsSuicide shape between point) between w.take_off-then-find_surrounded.new.cells (suicide_is shape between point none c.find_surrounded.new.group members) w.take_off-then-find_surrounded.ensures.off;
          }
      | else-find_surrounded w ↦
          let free = OnFalse_at w.if-find_surrounded.false c.find_surrounded.ensures.liberty in
          rw w.cells-is record {
            between = between;
            captures = captures_at;
            suicide = IsWithout-none (IsSuicide shape between point) between (no_suicide shape between point free);
          }
    ]
