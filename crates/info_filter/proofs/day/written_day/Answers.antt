use Rattle.info_filter.proofs.WrittenDays.{no_written_day}
use Rattle.info_filter.proofs.day.written_day.Goals as goal

pub returns-clause-none : goal.returns-clause-none
returns-clause-none c none =
    no_written_day c.args.text.now c.in_ok-year.year c.in_ok-year.month c.in_ok-year.day c.in_ok-year.ensures.some (c.day_number.ensures.none none)
