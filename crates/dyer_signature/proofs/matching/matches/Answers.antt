use Rattle.std.proofs.Common.{arith, subst, sym, ◌∙◌}
use Rattle.std.proofs.lemmas.Bool.{false≢true}
use Rattle.dyer_signature.proofs.PatternImages.{AreUnlike, matched_bytes, matches-by, unlike-all, unlike-more, unlike-skip}
use Rattle.dyer_signature.proofs.matching.matches.Goals as goal
use Rattle.dyer_signature.proofs.matching.matches.Goals.{in-Some+else-agrees, in_default}

pub returns-then-agrees-clause-other_byte : goal.returns-then-agrees-clause-other_byte
returns-then-agrees-clause-other_byte c k lt unknown =
    let h = c.in-Some.ensures.some in
    absurd (unknown (matched_bytes c.args.shape c.args.s.now.bytes c.args.pattern.now.bytes
    (matches-by c.args.shape c.args.s.now.bytes c.args.pattern.now.bytes c.loop-number.number c.in-Some.image.bytes
    (omega arith) h.0 h.1 (c.agrees.ensures.0 c.if-agrees.true)) k lt))

pub loop-number-preserved : goal.loop-number-preserved
loop-number-preserved c = elim c.match-image_by.branch [
  | in-Some+else-agrees w ↦
      unlike-more c.args.shape c.args.s.now.bytes c.args.pattern.now.bytes c.loop-number.number w.in-Some.image.bytes
      w.in-Some.ensures.some.1 (λ agrees. false≢true (sym w.if-agrees.false ∙ w.agrees.ensures.1 agrees)) c.loop-number.invariant
  | in_default w ↦
      unlike-skip c.args.shape c.args.s.now.bytes c.args.pattern.now.bytes c.loop-number.number
      w.in_default.ensures.none c.loop-number.invariant
]

pub returns-clause-value : goal.returns-clause-value
returns-clause-value c = (
  λ is. absurd (false≢true is),
  λ found. absurd (unlike-all c.args.shape c.args.s.now.bytes c.args.pattern.now.bytes
      (subst (λ n. AreUnlike c.args.shape n c.args.s.now.bytes c.args.pattern.now.bytes) (omega arith) c.loop-number.invariant) found),
)
