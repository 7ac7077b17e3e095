use Rattle.std.proofs.Common.{◌≡◌, ℕ, slice_index, inl, inr, subst, arith}
use Rattle.std.specs.Int.{bit_at}
use Rattle.std.proofs.lemmas.Bool.{cases_lt}
use Rattle.final_index.proofs.KeptBits.{or-bit}
use Rattle.candidate_sieve.proofs.candidates.joined.Goals as goal

pub loop-k-preserved : goal.loop-k-preserved
loop-k-preserved c = λ j g lt one.
    let both = or-bit c.loop-k.games (slice_index c.args.words.now c.loop-k.k) g in
    elim (cases_lt j c.loop-k.k) [
      | inl before ↦ both.1 (inl (c.loop-k.invariant j g before one))
      | inr last ↦
          let here : j ≡ c.loop-k.k = omega (arith, lt, last) in
          both.1 (inr (subst (λ (i : ℕ). bit_at (slice_index c.args.words.now i) g ≡ 1) here one))
    ]

pub returns : goal.returns
returns c = λ k g lt one. c.loop-k.invariant k g (omega (arith, lt, c.loop-k-test.false, c.loop-k.auto.k-end)) one
