use Rattle.std.proofs.Common.{ℕ, ◌<◌, ◌↔◌, subst}
use Rattle.std.specs.Prelude.{Contains}
use Rattle.kb_geometry.specs.Board.{point_count}
use Rattle.capture_board.specs.declared.cell_sets.PointsByCell.{PointsByCell}
use Rattle.capture_board.proofs.CellSetLemmas.{ArePointsOf-empty}
use Rattle.capture_board.proofs.cell_sets.CellSets.reset.Goals as goal

pub invariant_of-self : goal.invariant_of-self
invariant_of-self c =
    let sets : PointsByCell = record { empty = c.below-self-inside.result; black = c.clear.new.self; white = c.clear-2.new.self } in
    ArePointsOf-empty (point_count c.args.shape) c.empty_cells.new.room sets c.empty_cells.ensures.empty
    (subst (λ n. (p : ℕ) → Contains c.below-self-inside.result p ↔ (p < n)) c.count.ensures.value
    c.below-self-inside.ensures) c.clear.ensures c.clear-2.ensures
