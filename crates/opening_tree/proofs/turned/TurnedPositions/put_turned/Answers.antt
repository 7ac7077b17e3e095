use Rattle.std.proofs.Common.{◌≡◌, ◌<◌, ◌≤◌, ◌∙◌, ap, refl, subst, sym}
use Rattle.kb_geometry.specs.Symmetry.{IsAllowed}
use Rattle.opening_tree.specs.Frames.{symmetries_of}
use Rattle.opening_tree.specs.Turned.{TurnedState}
use Rattle.opening_tree.proofs.ImageChanges.{symmetry-allowed}
use Rattle.opening_tree.proofs.TurnedSteps.{put-end, put-more-here, put-start}
use Rattle.opening_tree.proofs.turned.TurnedPositions.put_turned.Goals as goal

pub apply-to-requires-clause-allowed : goal.apply-to-requires-clause-allowed
apply-to-requires-clause-allowed c =
    subst (λ s. IsAllowed s c.self.inside.shape) (sym c.symmetry.ensures)
    (symmetry-allowed c.self.inside.shape c.loop-number.number (subst (λ n. c.loop-number.number < n) c.symmetry_count-number-end.ensures c.loop-number-test.true)).1

pub loop-number-init : goal.loop-number-init
loop-number-init c = record { shape = refl; put = λ position long are. put-start c.args.self.now.shape position long c.args.point c.args.cell c.args.self.now.images are }

pub loop-number-preserved : goal.loop-number-preserved
loop-number-preserved c = record {
  shape = c.put.ensures.shape ∙ c.loop-number.invariant.shape;
  put = λ position long are.
      put-more-here c.args.self.now.shape position long c.args.point c.args.cell c.self.inside.shape (ap (λ (t : TurnedState). t.shape) c.self.view_is) c.loop-number.number c.loop-number.self.images c.put.new.self.images
      c.point-from.result c.apply-to.result c.number.result _ c.symmetry_count-number-end.result c.loop-number-test.true c.symmetry_count-number-end.ensures c.point-from.ensures.on_board c.point-from.ensures.inverse
      c.symmetry.ensures c.apply-to.ensures.value c.number.ensures.value (c.loop-number.invariant.put position long are) c.put.ensures.images;
}

pub returns-clause-images : goal.returns-clause-images
returns-clause-images c position long are =
    let same : c.self.inside.shape ≡ c.args.self.now.shape = ap (λ (t : TurnedState). t.shape) c.self.view_is in
    let all : symmetries_of c.args.self.now.shape ≤ c.loop-number.number = subst (λ n. n ≤ c.loop-number.number) (c.symmetry_count-number-end.ensures ∙ ap symmetries_of same) c.loop-number-test.false in
    put-end c.args.self.now.shape position long c.args.point c.args.cell c.loop-number.number c.loop-number.self.images all (c.loop-number.invariant.put position long are)
