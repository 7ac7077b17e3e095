use Rattle.std.proofs.Common.{inl, inr, arith}
use Rattle.std.proofs.lemmas.Bool.{cases_lt}
use Rattle.kb_bits.proofs.Readings.{AreWords-zero, members-none}
use Rattle.kb_bits.proofs.bit_board.BitBoard.clear.Goals as goal

pub invariant_of-self : goal.invariant_of-self
invariant_of-self c =
    let kept = c.loop-k.invariant in
    AreWords-zero c.loop-k.self-inside.words kept.count (λ j.
    elim (cases_lt j c.loop-k.k) [
      | inl lt ↦ kept.before j lt
      | inr le ↦ kept.behind j (omega arith)
    ])

pub returns : goal.returns
returns c =
    let kept = c.loop-k.invariant in
    members-none c.loop-k.self-inside.words (λ j.
    elim (cases_lt j c.loop-k.k) [
      | inl lt ↦ kept.before j lt
      | inr le ↦ kept.behind j (omega arith)
    ])
