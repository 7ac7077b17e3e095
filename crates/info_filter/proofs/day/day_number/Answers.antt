use Rattle.std.proofs.Common.{◌∙◌, ap, w32, FitsSigned, arith}
use Rattle.std.proofs.lemmas.Int.{to_z-of_z}
use Rattle.jiff.proofs.SpanFacts.{signed_arith}
use Rattle.jiff_core.specs.Calendar.{days_from_civil}
use Rattle.info_filter.proofs.Calendars.{made_day, ok_value}
use Rattle.info_filter.proofs.day.day_number.Goals as goal

pub returns-clause-some : goal.returns-clause-some
returns-clause-some c =
    let date = c.in_ok-date.date in
    let told = ok_value c.new.result date _ c.in_ok-date.ensures.value c.new.ensures.value in
    let fits : FitsSigned w32 c.to_unix_epoch_day.result = omega (arith, signed_arith, c.to_unix_epoch_day.ensures.bound) in
    made_day c.args.year c.args.month c.args.day date.year date.month date.day _ c.requires.year c.requires.month c.requires.day told.0 told.1 told.2 (date.year_in, date.month_in, date.day_in)
    (to_z-of_z w32 c.to_unix_epoch_day.result fits ∙ c.to_unix_epoch_day.ensures.value ∙ ap (λ d. days_from_civil d.year d.month d.day) c.to_plain.ensures)
