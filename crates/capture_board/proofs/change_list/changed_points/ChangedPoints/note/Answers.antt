use Rattle.std.proofs.Common.{◌≡◌, ◌≢◌, sym, ◌∙◌, arith}
use Rattle.std.specs.Prelude.{Contains}
use Rattle.std.proofs.lemmas.Bool.{false≢true}
use Rattle.kb_geometry.specs.Capture.{cell_at}
use Rattle.capture_board.proofs.Cells.{same_cell}
use Rattle.capture_board.proofs.ChangedPoints.{AreChangedPoints-back, AreChangedPoints-more}
use Rattle.capture_board.proofs.change_list.changed_points.ChangedPoints.note.Goals as goal

pub returns-then-eq : goal.returns-then-eq
returns-then-eq c =
    let was = c.contains.ensures.0 c.if-contains.true in
    let back : cell_at c.args.self.now.before c.args.point ≡ c.args.new = rw (← c.from-index.ensures) (same_cell _ _ (sym c.eq.ensures ∙ c.if-eq.true)) in
    λ base now fits here are. AreChangedPoints-back base now c.args.self.now are c.args.point c.args.new fits c.remove.new.self was back c.remove.ensures

pub returns-else-contains : goal.returns-else-contains
returns-else-contains c =
    let none : ¬ Contains c.args.self.now.points c.args.point = λ h. false≢true (sym c.if-contains.false ∙ c.contains.ensures.1 h) in
    λ base now fits here are.
    let another : cell_at now c.args.point ≢ c.args.new = λ e. c.requires.another (sym here ∙ e) in
    rw (c.from-index.ensures, ← here) (AreChangedPoints-more base now c.args.self.now are c.args.point c.args.new fits c.insert.new.self (omega arith) none another c.insert.ensures)
