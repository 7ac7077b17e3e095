use Rattle.std.proofs.Common.{refl}
use Rattle.info_filter.proofs.DateTexts.{year_missing}
use Rattle.info_filter.proofs.day.leading_year.Goals as goal

pub returns-in_err-year_of-clause-none : goal.returns-in_err-year_of-clause-none
returns-in_err-year_of-clause-none c _ = year_missing c.args.date.now (λ n number. c.in_err-year_of.ensures.none refl n number)
