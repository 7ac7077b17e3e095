use Rattle.std.proofs.Common.{◌≡◌, ℕ, get_or, set, take, sym, ◌∙◌, ap, subst, arith}
use Rattle.kb_geometry.specs.declared.stone.Cell.TheVariants as cell
use Rattle.kb_geometry.specs.Board.{point_count}
use Rattle.kb_geometry.specs.Capture.{cell_at}
use Rattle.capture_board.specs.Board.{ShapedPosition}
use Rattle.capture_board.specs.StoredWalking.{ArePointsOf}
use Rattle.capture_board.proofs.CellSetLemmas.{board_with, take_set, ArePointsOf-put}
use Rattle.kb_geometry.proofs.Shapes.{point_count-le-most}
use Rattle.capture_board.proofs.cell_sets.CellSets.put.Goals as goal

pub invariant_of-self : goal.invariant_of-self
invariant_of-self c =
    let count = ap (λ (b : ShapedPosition). point_count b.shape) c.self.view_is in
    let small = point_count-le-most c.self.inside.shape in
    let old : get_or c.self.inside.cells c.from.result cell.Empty ≡ cell_at c.self.inside.cells c.args.point = ap (cell_at c.self.inside.cells) c.from.ensures in
    subst (λ (i : ℕ). ArePointsOf (point_count c.self.inside.shape) (set c.self.inside.cells i c.args.cell) c.insert.new.self) (sym c.from-2.ensures)
    (ArePointsOf-put (point_count c.self.inside.shape) c.self.inside.cells c.self.inside.points c.remove.new.self c.insert.new.self c.args.point _ c.args.cell old
    (omega (arith, count, c.requires)) (omega (arith, small)) c.self.invariant c.remove.ensures c.insert.ensures)

pub returns : goal.returns
returns c =
    let count = ap (λ (b : ShapedPosition). point_count b.shape) c.self.view_is in
    ap (λ i. board_with c.self.inside.shape (take (point_count c.self.inside.shape) (set c.self.inside.cells i c.args.cell))) c.from-2.ensures
    ∙ ap (board_with c.self.inside.shape) (take_set (point_count c.self.inside.shape) c.args.point c.self.inside.cells c.args.cell (omega (arith, count, c.requires)))
    ∙ ap (λ (b : ShapedPosition). board_with b.shape (set b.position c.args.point c.args.cell)) c.self.view_is
