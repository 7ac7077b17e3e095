use Rattle.std.proofs.Common.{◌≡◌, ◌≢◌, Some, None, refl, sym, ◌∙◌, below_more, arith}
use Rattle.std.proofs.lemmas.Bool.{false≢true}
use Rattle.std.proofs.lemmas.List.{get_or_default}
use Rattle.kb_geometry.specs.Capture.{cell_at}
use Rattle.kb_geometry.specs.declared.stone.Cell.TheVariants as cell
use Rattle.capture_board.proofs.Cells.{same_cell, other_cell}
use Rattle.capture_board.proofs.Neighbours.{some_entry}
use Rattle.capture_board.proofs.board.captures.breathes.Goals as goal
use Rattle.capture_board.proofs.board.captures.breathes.Goals.{in-Some+else-eq, in_default}

pub bounds-cells-from : goal.bounds-cells-from
bounds-cells-from c = let here = c.requires _ (some_entry c.args.around.now c.loop-next.next-index _ c.in-Some.is) in omega arith

pub returns-then-eq : goal.returns-then-eq
returns-then-eq c = (λ e. (c.in-Some.q, some_entry c.args.around.now c.loop-next.next-index _ c.in-Some.is, rw (← c.from.ensures) (same_cell _ _ (sym c.eq.ensures ∙ c.if-eq.true))), λ h. refl)

pub loop-next-preserved : goal.loop-next-preserved
loop-next-preserved c =
    below_more _ _ c.loop-next.invariant (λ q is. elim c.match-next.branch [
      | in-Some+else-eq w ↦
          let same : q ≡ w.in-Some.q = (let there = w.in-Some.is in cc) in
          let full : cell_at c.args.cells.now w.in-Some.q ≢ cell.Empty = rw (← w.from.ensures) (other_cell _ _ (sym w.eq.ensures ∙ w.if-eq.false)) in
          rw same full
      | in_default w ↦ let none = w.in_default.is in cc
    ])

pub returns : goal.returns
returns c = (
  λ e. absurd (false≢true e),
  λ (q, there, empty). absurd (c.loop-next.invariant there.0 (omega (arith, there.1)) q (get_or_default c.args.around.now there.0 None (Some q) there.1 ∙ there.2) empty),
)
