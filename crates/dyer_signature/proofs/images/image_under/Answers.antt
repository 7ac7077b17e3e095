use Rattle.std.proofs.Common.{◌+◌, arith, subst, sym}
use Rattle.kb_geometry.specs.Symmetry.{number_of_symmetry}
use Rattle.dyer_signature.specs.declared.bytes.Signature.{Signature}
use Rattle.dyer_signature.proofs.Turnings.{IsMovedBelow, moved-none, moved-point, told_none, told_point}
use Rattle.dyer_signature.proofs.images.image_under.Goals as goal
use Rattle.dyer_signature.proofs.images.image_under.Goals.{in-Some, in_default}

pub apply-requires-clause-on_board : goal.apply-requires-clause-on_board
apply-requires-clause-on_board c =
    (told_point c.args.shape c.args.s.now.bytes c.loop-place.place c.point_at.result c.in-Some.point c.requires.on_board
    (omega arith) c.point_at.ensures c.in-Some.is).1

pub loop-place-preserved : goal.loop-place-preserved
loop-place-preserved c =
    let P : Signature → Type 0 = λ s. IsMovedBelow c.args.shape (number_of_symmetry c.args.symmetry) (c.loop-place.place + 1) c.args.s.now.bytes s.bytes in
    elim c.match-point_at.branch [
      | in-Some w ↦ subst P (sym w.image-is)
          (moved-point c.args.shape _ c.args.s.now.bytes c.loop-place.place _ _ w.in-Some.point w.apply.result
          (told_point c.args.shape c.args.s.now.bytes c.loop-place.place c.point_at.result w.in-Some.point c.requires.on_board
          (omega arith) c.point_at.ensures w.in-Some.is).0
          w.apply.ensures.value w.with_point-image.ensures.twelve w.with_point-image.ensures.here
          w.with_point-image.ensures.others c.loop-place.invariant)
      | in_default w ↦ subst P (sym w.image-is)
          (moved-none c.args.shape _ c.args.s.now.bytes c.loop-place.place _ (omega arith)
          (told_none c.args.shape c.args.s.now.bytes c.loop-place.place c.point_at.result c.requires.on_board
          (omega arith) c.point_at.ensures w.in_default.is)
          c.loop-place.invariant)
    ]
