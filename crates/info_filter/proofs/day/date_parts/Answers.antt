use Rattle.std.proofs.Common.{refl, subst}
use Rattle.info_filter.specs.DateParts.{BeginsWithPart}
use Rattle.info_filter.proofs.DateTexts.{made, no_day, no_end, no_month, no_year, nothing_left, something_left}
use Rattle.info_filter.proofs.day.date_parts.Goals as goal

pub returns-in_err-year-clause-none : goal.returns-in_err-year-clause-none
returns-in_err-year-clause-none c _ = no_year c.args.date.now (c.in_err-year.ensures.none refl)

pub returns-in_err-month-clause-none : goal.returns-in_err-month-clause-none
returns-in_err-month-clause-none c _ =
    no_month c.args.date.now c.in_ok-year.year c.in_ok-year.behind_year.now c.in_ok-year.ensures.some (c.in_err-month.ensures.none refl)

pub returns-in_err-day-clause-none : goal.returns-in_err-day-clause-none
returns-in_err-day-clause-none c _ =
    no_day c.args.date.now c.in_ok-year.year c.in_ok-month.month c.in_ok-year.behind_year.now c.in_ok-month.behind_month.now c.in_ok-year.ensures.some c.in_ok-month.ensures.some (c.in_err-day.ensures.none refl)

pub returns-then-is_empty-clause-some : goal.returns-then-is_empty-clause-some
returns-then-is_empty-clause-some c =
    made c.args.date.now c.in_ok-year.year c.in_ok-month.month c.in_ok-day.day c.in_ok-year.behind_year.now c.in_ok-month.behind_month.now c.in_ok-year.ensures.some c.in_ok-month.ensures.some
    (subst (BeginsWithPart c.in_ok-month.behind_month.now c.in_ok-day.day) (nothing_left c.in_ok-day.rest.now c.if-is_empty.ensures) c.in_ok-day.ensures.some)

pub returns-else-is_empty-clause-none : goal.returns-else-is_empty-clause-none
returns-else-is_empty-clause-none c _ =
    no_end c.args.date.now c.in_ok-year.year c.in_ok-month.month c.in_ok-day.day c.in_ok-year.behind_year.now c.in_ok-month.behind_month.now c.in_ok-day.rest.now c.in_ok-year.ensures.some c.in_ok-month.ensures.some c.in_ok-day.ensures.some
    (something_left c.in_ok-day.rest.now c.if-is_empty.ensures)
