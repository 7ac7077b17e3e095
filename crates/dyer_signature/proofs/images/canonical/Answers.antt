use Rattle.std.proofs.Common.{◌≡◌, ◌⊎◌, ◌+◌, ap, arith, inl, inr, subst, sym}
use Rattle.dyer_signature.specs.declared.bytes.Signature.{Signature}
use Rattle.dyer_signature.proofs.Turnings.{IsLeastBelow, any_image-on_board, least-all, least-more, least-skip, least-start}
use Rattle.dyer_signature.proofs.images.canonical.Goals as goal
use Rattle.dyer_signature.proofs.images.canonical.Goals.{in-Some, in_default}

same_bytes : {a b d : Signature} → (a ≡ b) ⊎ (a ≡ d) → (a.bytes ≡ b.bytes) ⊎ (a.bytes ≡ d.bytes)
same_bytes (inl e) = inl (ap (λ (s : Signature). s.bytes) e)
same_bytes (inr e) = inr (ap (λ (s : Signature). s.bytes) e)

pub loop-number-init : goal.loop-number-init
loop-number-init c = least-start c.args.shape c.args.s.now.bytes c.requires

pub loop-number-preserved : goal.loop-number-preserved
loop-number-preserved c =
    let P : Signature → Type 0 = λ s. IsLeastBelow c.args.shape (c.loop-number.number + 1) c.args.s.now.bytes s.bytes in
    elim c.match-image_by.branch [
      | in-Some w ↦ subst P (sym w.least-is)
          (least-more c.args.shape c.args.s.now.bytes c.loop-number.number c.loop-number.least.bytes w.in-Some.image.bytes _
          (omega arith) w.in-Some.ensures.some.0 w.in-Some.ensures.some.1
          (same_bytes w.lesser-least.ensures.one) w.lesser-least.ensures.first w.lesser-least.ensures.second
          c.loop-number.invariant)
      | in_default w ↦ subst P (sym w.least-is)
          (least-skip c.args.shape c.args.s.now.bytes c.loop-number.number _ w.in_default.ensures.none c.loop-number.invariant)
    ]

pub returns-clause-least : goal.returns-clause-least
returns-clause-least c =
    least-all c.args.shape c.args.s.now.bytes _
    (subst (λ n. IsLeastBelow c.args.shape n c.args.s.now.bytes c.loop-number.least.bytes) (omega arith) c.loop-number.invariant)

pub returns-clause-on_board : goal.returns-clause-on_board
returns-clause-on_board c =
    any_image-on_board c.args.shape c.args.s.now.bytes _ c.requires c.loop-number.invariant.is_image
