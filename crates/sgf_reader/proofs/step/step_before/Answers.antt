use Rattle.sgf_reader.proofs.OutsideLemmas.{leads-before, leads-game, fails-game}
use Rattle.sgf_reader.proofs.StepLemmas.{same_error}
use Rattle.sgf_reader.proofs.step.step_before.Goals as goal

pub returns-in_err-begin_game-clause-fault : goal.returns-in_err-begin_game-clause-fault
returns-in_err-begin_game-clause-fault c = λ f is.
    fails-game _ _ _ _ f c.if-byte-eq59.true (c.begin_game.ensures.fault f (same_error _ _ _ _ c.from_residual.ensures.1 c.in_err-begin_game.was is))

pub returns-then-byte-eq59-clause-ok : goal.returns-then-byte-eq59-clause-ok
returns-then-byte-eq59-clause-ok c =
    let made = c.in_ok-begin_game.ensures.ok in
    leads-game _ _ _ _ _ c.if-byte-eq59.true made.0 made.1

pub returns-clause-ok : goal.returns-clause-ok
returns-clause-ok c = leads-before _ _ _ _ _ c.if-byte-le32.false c.if-byte-eq59.false c.outside.ensures
