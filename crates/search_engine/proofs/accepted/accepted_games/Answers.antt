use Rattle.std.proofs.Common.{length, sym, ◌∙◌}
use Rattle.std.proofs.lemmas.Bool.{eqb-true}
use Rattle.search_engine.proofs.GameBits.{AreAccepted-without}
use Rattle.search_engine.proofs.accepted.accepted_games.Goals as goal

pub returns-then-is_empty : goal.returns-then-is_empty
returns-then-is_empty c =
    AreAccepted-without c.args.filter.now c.args.skip c.args.block.now c.as_slice.result.now c.as_slice.ensures (eqb-true (length c.as_slice.result.now) 0 (sym c.is_empty.ensures ∙ c.if-is_empty.true))
