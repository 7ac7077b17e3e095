use Rattle.std.proofs.Common.{refl, sym, subst}
use Rattle.info_filter.specs.Day.{IsDayOf}
use Rattle.info_filter.proofs.Calendars.{day_there, no_day}
use Rattle.info_filter.proofs.day.day_of.Goals as goal

pub returns-in_err-year : goal.returns-in_err-year
returns-in_err-year c =
    subst (IsDayOf c.args.date.now) (sym c.from_residual.ensures)
    (λ number. no_day c.args.date.now c.first_date.result.now c.first_date.ensures (c.in_err-year.ensures.none refl) number)

pub returns : goal.returns
returns c =
    day_there c.args.date.now c.first_date.result.now c.in_ok-year.year c.in_ok-year.month c.in_ok-year.day c.day_number.result c.first_date.ensures c.in_ok-year.ensures.some c.day_number.ensures.some c.day_number.ensures.none
