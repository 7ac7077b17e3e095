use Rattle.std.proofs.Common.{◌≡◌, ℕ, bit_and, ap, ◌∙◌}
use Rattle.std.proofs.lemmas.Bool.{eqb-true}
use Rattle.std.specs.Int.{bit_at}
use Rattle.final_index.proofs.KeptBits.{and-bit}
use Rattle.candidate_sieve.proofs.candidates.are_among.Goals as goal

pub returns : goal.returns
returns c t g one =
    let same : bit_and c.args.word c.args.games ≡ c.args.word = eqb-true (bit_and c.args.word c.args.games) c.args.word t in
    ((and-bit c.args.word c.args.games g).0 (ap (λ (w : ℕ). bit_at w g) same ∙ one)).1
