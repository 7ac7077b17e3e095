use Rattle.std.proofs.Common.{◌≡◌, ℕ, ap, ◌∙◌, arith}
use Rattle.std.specs.Int.{bit_at}
use Rattle.std.proofs.lemmas.Bool.{eqb-true}
use Rattle.std.proofs.lemmas.Nat.Bits.{bit_at-zero}
use Rattle.candidate_sieve.proofs.candidates.is_settled.Goals as goal

pub returns : goal.returns
returns c t g one =
    let none : c.args.games ≡ 0 = eqb-true c.args.games 0 t in
    let bit : bit_at c.args.games g ≡ 0 = ap (λ (w : ℕ). bit_at w g) none ∙ bit_at-zero g in
    absurd (omega (arith, one, bit))
