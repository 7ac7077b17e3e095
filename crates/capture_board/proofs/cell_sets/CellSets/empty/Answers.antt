use Rattle.std.proofs.Common.{ℕ, ◌<◌, ◌↔◌, replicate, subst}
use Rattle.std.proofs.lemmas.List.{take-replicate}
use Rattle.std.specs.Prelude.{Contains}
use Rattle.kb_geometry.specs.Board.{point_count}
use Rattle.kb_geometry.specs.declared.shape.TheConstants.{MAX_POINTS}
use Rattle.kb_geometry.specs.declared.stone.Cell.TheVariants as cell
use Rattle.capture_board.proofs.CellSetLemmas.{ArePointsOf-empty}
use Rattle.kb_geometry.proofs.Shapes.{point_count-le-most}
use Rattle.capture_board.proofs.cell_sets.CellSets.empty.Goals as goal

pub returns-clause-position : goal.returns-clause-position
returns-clause-position c = take-replicate (point_count c.args.shape) MAX_POINTS cell.Empty (point_count-le-most c.args.shape)

pub invariant_of-result : goal.invariant_of-result
invariant_of-result c =
    let count = point_count c.args.shape in
    ArePointsOf-empty count (replicate MAX_POINTS cell.Empty)
    (record { empty = c.below.result; black = c.empty.result; white = c.empty-2.result })
    (take-replicate count MAX_POINTS cell.Empty (point_count-le-most c.args.shape))
    (subst (λ n. (p : ℕ) → Contains c.below.result p ↔ (p < n)) c.count.ensures.value c.below.ensures)
    c.empty.ensures c.empty-2.ensures
