use Rattle.std.proofs.Common.{◌≡◌, ◌≢◌, refl, sym, ◌∙◌, arith}
use Rattle.std.proofs.lemmas.Bool.{false≢true}
use Rattle.kb_geometry.specs.Capture.{cell_at}
use Rattle.kb_geometry.specs.declared.stone.Cell.TheVariants as cell
use Rattle.capture_board.proofs.Cells.{same_cell, other_cell}
use Rattle.capture_board.proofs.Fills.{Reached-none, Reached-skip, Reached-other, Reached-added, Reached-all}
use Rattle.capture_board.proofs.Neighbours.{neighbour-lt-count, around_neighbour}
use Rattle.capture_board.proofs.board.groups.add_neighbours.Goals as goal
use Rattle.capture_board.proofs.board.groups.add_neighbours.Goals.{in-Some+else-eq+then-eq-2, in-Some+else-eq+else-eq-2, in_default}

pub loop-next-init : goal.loop-next-init
loop-next-init c = Reached-none c.args.shape c.args.cells.now c.args.stone c.args.point c.neighbours-around.result c.args.group.now

pub bounds-cells-from : goal.bounds-cells-from
bounds-cells-from c =
    let near = around_neighbour c.args.shape c.args.point c.neighbours-around.result c.neighbours-around.ensures.all c.loop-next.next-index c.in-Some.q c.in-Some.is in
    omega (arith, neighbour-lt-count c.args.shape c.args.point c.in-Some.q near)

pub returns-then-eq-clause-liberty : goal.returns-then-eq-clause-liberty
returns-then-eq-clause-liberty c =
    let near = around_neighbour c.args.shape c.args.point c.neighbours-around.result c.neighbours-around.ensures.all c.loop-next.next-index c.in-Some.q c.in-Some.is in
    (λ e. (c.in-Some.q, near, rw (← c.from.ensures) (same_cell _ _ (sym c.eq.ensures ∙ c.if-eq.true))), λ h. refl)

pub returns-then-eq-clause-only : goal.returns-then-eq-clause-only
returns-then-eq-clause-only c = c.loop-next.invariant.only

pub returns-then-eq-clause-extends : goal.returns-then-eq-clause-extends
returns-then-eq-clause-extends c = c.loop-next.invariant.extends

pub loop-next-preserved : goal.loop-next-preserved
loop-next-preserved c =
    let shape = c.args.shape in
    let cells = c.args.cells.now in
    let around = c.neighbours-around.result in
    let more_added = Reached-added shape cells c.args.stone c.args.point around c.args.group.now c.loop-next.group c.loop-next.next-index c.loop-next.invariant in
    let more_other = Reached-other shape cells c.args.stone c.args.point around c.args.group.now c.loop-next.group c.loop-next.next-index c.loop-next.invariant in
    let more_skip = Reached-skip shape cells c.args.stone c.args.point around c.args.group.now c.loop-next.group c.loop-next.next-index c.loop-next.invariant in
    elim c.match-next.branch [
      | in-Some+else-eq+then-eq-2 w ↦
          let near = around_neighbour shape c.args.point around c.neighbours-around.ensures.all c.loop-next.next-index w.in-Some.q w.in-Some.is in
          let full : cell_at cells w.in-Some.q ≢ cell.Empty = rw (← w.from.ensures) (other_cell _ _ (sym w.eq.ensures ∙ w.if-eq.false)) in
          let same : cell_at cells w.in-Some.q ≡ c.args.stone = rw (← w.from.ensures) (same_cell _ _ (sym w.eq-in-Some.ensures ∙ w.if-eq-2.true)) in
          rw w.group-is (more_added w.in-Some.q w.in-Some.is full same near w.insert.new.self w.insert.ensures)
      | in-Some+else-eq+else-eq-2 w ↦
          let full : cell_at cells w.in-Some.q ≢ cell.Empty = rw (← w.from.ensures) (other_cell _ _ (sym w.eq.ensures ∙ w.if-eq.false)) in
          let other : cell_at cells w.in-Some.q ≢ c.args.stone = rw (← w.from.ensures) (other_cell _ _ (sym w.eq-in-Some.ensures ∙ w.if-eq-2.false)) in
          rw w.group-is (more_other w.in-Some.q w.in-Some.is full other)
      | in_default w ↦ rw w.group-is (more_skip w.in_default.is)
    ]

pub returns-clause-liberty : goal.returns-clause-liberty
returns-clause-liberty c =
    let all = Reached-all c.args.shape c.args.cells.now c.args.stone c.args.point c.neighbours-around.result c.args.group.now c.loop-next.group c.loop-next.next-index c.loop-next.invariant (omega arith) c.neighbours-around.ensures.all in
    (λ e. absurd (false≢true e), λ h. absurd ((all h.0 h.1).0 h.2))

pub returns-clause-added : goal.returns-clause-added
returns-clause-added c =
    let all = Reached-all c.args.shape c.args.cells.now c.args.stone c.args.point c.neighbours-around.result c.args.group.now c.loop-next.group c.loop-next.next-index c.loop-next.invariant (omega arith) c.neighbours-around.ensures.all in
    λ e q near. (all q near).1

pub returns-clause-only : goal.returns-clause-only
returns-clause-only c = c.loop-next.invariant.only

pub returns-clause-extends : goal.returns-clause-extends
returns-clause-extends c = c.loop-next.invariant.extends
