use Rattle.std.proofs.Common.{◌<◌, ◌+◌, ◌-◌, arith}
use Rattle.std.specs.Option.{SomeIff}
use Rattle.kb_geometry.specs.Board.{cols_of, rows_of}
use Rattle.capture_board.proofs.Neighbours.{number_at, neighbours_are_four}
use Rattle.capture_board.proofs.board.adjacent.neighbours.Goals as goal
use Rattle.capture_board.proofs.board.adjacent.neighbours.Goals.{then-x-gt0, else-x-gt0, then-x-cols, else-x-cols, then-y-gt0, else-y-gt0, then-y-rows, else-y-rows}

pub returns-clause-all : goal.returns-clause-all
returns-clause-all c =
    let shape = c.args.shape in
    let p = c.point-x.result in
    let left : SomeIff c.if-x-gt0.left (0 < p.x) (number_at shape (p.x - 1) p.y) = elim c.if-x-gt0.branch [ then-x-gt0 w ↦ rw w.left-is (omega arith, w.number.ensures.value) | else-x-gt0 w ↦ rw w.left-is (λ h. omega arith) ] in
    let right : SomeIff c.if-x-cols.right (p.x + 1 < cols_of shape) (number_at shape (p.x + 1) p.y) = elim c.if-x-cols.branch [ then-x-cols w ↦ rw w.right-is (omega arith, w.number-then-x-cols.ensures.value) | else-x-cols w ↦ rw w.right-is (λ h. omega arith) ] in
    let up : SomeIff c.if-y-gt0.up (0 < p.y) (number_at shape p.x (p.y - 1)) = elim c.if-y-gt0.branch [ then-y-gt0 w ↦ rw w.up-is (omega arith, w.number-then-y-gt0.ensures.value) | else-y-gt0 w ↦ rw w.up-is (λ h. omega arith) ] in
    let down : SomeIff c.if-y-rows.down (p.y + 1 < rows_of shape) (number_at shape p.x (p.y + 1)) = elim c.if-y-rows.branch [ then-y-rows w ↦ rw w.down-is (omega arith, w.number-then-y-rows.ensures.value) | else-y-rows w ↦ rw w.down-is (λ h. omega arith) ] in
    neighbours_are_four shape p c.args.number c.point-x.ensures.on_board c.point-x.ensures.inverse _ _ _ _ left right up down c.point-x.ensures.only
