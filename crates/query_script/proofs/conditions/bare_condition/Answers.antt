use Rattle.std.proofs.Common.{refl}
use Rattle.query_script.proofs.Errors.{without_value}
use Rattle.query_script.proofs.ToldConditions.{no_from_day, no_to_day}
use Rattle.query_script.proofs.conditions.bare_condition.Goals as goal

pub returns-in_err-written_day-clause-none : goal.returns-in_err-written_day-clause-none
returns-in_err-written_day-clause-none c =
    without_value _ (no_from_day _ _ (c.is_bare-2.ensures.0 c.if-is_bare-2.true) (c.in_err-written_day.ensures.none refl))

pub returns-in_err-written_day-2-clause-none : goal.returns-in_err-written_day-2-clause-none
returns-in_err-written_day-2-clause-none c =
    without_value _ (no_to_day _ _ (c.is_bare-3.ensures.0 c.if-is_bare-3.true) (c.in_err-written_day-2.ensures.none refl))
