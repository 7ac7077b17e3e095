use Rattle.std.proofs.Common.{◌<◌, ◌∙◌, List, get_or, refl, subst, sym, take}
use Rattle.std.proofs.lemmas.List.{take_all}
use Rattle.kb_geometry.specs.declared.shape.Shape.{Shape}
use Rattle.kb_geometry.specs.declared.stone.Cell.TheVariants as cell
use Rattle.kb_geometry.specs.declared.stone.Change.{Change}
use Rattle.kb_geometry.specs.Board.{point_count}
use Rattle.capture_board.specs.StoredWalking.{with_old_cells}
use Rattle.opening_tree.specs.Frames.{AreImages}
use Rattle.opening_tree.proofs.TurnedSteps.{change-put, old_cells-more, length-with_old_cells}
use Rattle.opening_tree.proofs.turned.TurnedPositions.take_back.Goals as goal

pub put_turned-requires : goal.put_turned-requires
put_turned-requires c =
    let none : Change = record { point = 0; old = cell.Empty; new = cell.Empty } in
    subst (λ (s : Shape). (get_or c.args.changes.now c.loop-change.change-index (record { point = 0; old = cell.Empty; new = cell.Empty })).point < point_count s) (sym c.loop-change.invariant.shape)
    (c.requires c.loop-change.change-index none c.loop-change-test.true)

pub loop-change-init : goal.loop-change-init
loop-change-init c = record { shape = refl; images = λ position long are. are }

pub loop-change-preserved : goal.loop-change-preserved
loop-change-preserved c = record {
  shape = c.put_turned.ensures.shape ∙ c.loop-change.invariant.shape;
  images = λ position long are.
      let none : Change = record { point = 0; old = cell.Empty; new = cell.Empty } in
      let changes = c.args.changes.now in
      let i = c.loop-change.change-index in
      let before = with_old_cells position (take c.loop-change.change-index c.args.changes.now) in
      change-put c.loop-change.self.shape c.args.self.now.shape c.loop-change.invariant.shape before _ (length-with_old_cells position (take i changes) ∙ long) c.loop-change.self.images c.put_turned.new.self.images
      (get_or changes i none).point (get_or changes i none).old (old_cells-more position changes i none c.loop-change-test.true) c.put_turned.ensures.images (c.loop-change.invariant.images position long are);
}

pub returns-clause-images : goal.returns-clause-images
returns-clause-images c position long are =
    subst (λ (cs : List Change). AreImages c.args.self.now.shape (with_old_cells position cs) c.loop-change.self.images) (take_all c.loop-change.change-index c.args.changes.now c.loop-change-test.false)
    (c.loop-change.invariant.images position long are)
