use Rattle.std.proofs.Common.{ℕ, ap, ◌∙◌, arith}
use Rattle.std.specs.Int.{bit_at}
use Rattle.std.proofs.lemmas.Nat.Bits.{bit_at-zero}
use Rattle.candidate_sieve.proofs.kept_words.games_met.Goals as goal

pub returns-then-games-eq0-clause-those : goal.returns-then-games-eq0-clause-those
returns-then-games-eq0-clause-those c = λ g changes lt same numbers. (
  λ e. absurd (omega (arith, e, bit_at-zero g)),
  λ h. absurd (omega (arith, h.0, ap (λ (w : ℕ). bit_at w g) c.if-games-eq0.true ∙ bit_at-zero g)),
)

pub returns-then-games-eq0-clause-among : goal.returns-then-games-eq0-clause-among
returns-then-games-eq0-clause-among c = λ g lt e. absurd (omega (arith, e, bit_at-zero g))

pub games_with_corners-requires-clause-in_range : goal.games_with_corners-requires-clause-in_range
games_with_corners-requires-clause-in_range c = λ k d lt. (c.corners_of.ensures.sound k d lt).1.in_range

pub returns-clause-those : goal.returns-clause-those
returns-clause-those c = c.games_with_corners.ensures.those c.args.ready.now.images c.args.number c.corners_of.ensures c.requires.placed
