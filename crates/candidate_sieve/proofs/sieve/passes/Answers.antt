use Rattle.std.proofs.Common.{◌∙◌, below_more, refl, sym, arith}
use Rattle.std.proofs.lemmas.Bool.{false≢true}
use Rattle.candidate_sieve.proofs.KeptPlacements.{kept-by, not-kept}
use Rattle.candidate_sieve.proofs.sieve.passes.Goals as goal

pub loop-i-preserved : goal.loop-i-preserved
loop-i-preserved c deltas some same sets numbers =
    below_more _ _ (c.loop-i.invariant deltas some same sets numbers) (λ kept. false≢true (sym c.if-keeps.false ∙ (c.keeps.ensures deltas some same sets numbers).1 kept))

pub returns-then-keeps : goal.returns-then-keeps
returns-then-keeps c deltas some same sets numbers =
    (λ t. kept-by deltas c.args.images.now.placements c.loop-i.i (omega (arith, c.loop-i-test.true, c.len-i-end.ensures.value)) ((c.keeps.ensures deltas some (same ∙ sym c.requires) sets numbers).0 c.if-keeps.true), λ kept. refl)

pub returns : goal.returns
returns c deltas some same sets numbers =
    (λ t. absurd (false≢true t), λ kept. absurd (not-kept deltas c.args.images.now.placements c.loop-i.i (omega (arith, c.loop-i-test.false, c.len-i-end.ensures.value)) (c.loop-i.invariant deltas some (same ∙ sym c.requires) sets numbers) kept))
