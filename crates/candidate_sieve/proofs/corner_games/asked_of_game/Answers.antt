use Rattle.std.proofs.Common.{sym, ◌∙◌, arith}
use Rattle.std.specs.Int.{w64}
use Rattle.std.proofs.lemmas.Bool.{false≢true}
use Rattle.std.proofs.lemmas.Nat.Bits.{bit_at_clear_other, bit_at_clear_same}
use Rattle.candidate_sieve.proofs.corner_games.asked_of_game.Goals as goal

pub returns-clause-here : goal.returns-clause-here
returns-clause-here c = (
  λ e. absurd (omega (arith, sym e ∙ bit_at_clear_same w64 c.args.games c.args.at c.requires.at)),
  λ h. absurd (false≢true (sym c.if-has.false ∙ c.has.ensures.1 h.1)),
)

pub returns-clause-others : goal.returns-clause-others
returns-clause-others c = λ g lt other. bit_at_clear_other w64 c.args.games c.args.at c.requires.at g lt other
