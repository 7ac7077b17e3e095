use Rattle.info_filter.proofs.FirstDates.{first_there}
use Rattle.info_filter.proofs.day.first_date.Goals as goal

pub returns : goal.returns
returns c =
    first_there c.args.text.now c.behind_white-shown.result.now c.date_end.result c.behind_white-shown.ensures.split c.behind_white-shown.ensures.first c.date_end.ensures.made c.date_end.ensures.longest
