use Rattle.info_filter.proofs.SomeDay.{one_day, some_day}
use Rattle.info_filter.proofs.laws.a_text_has_one_day_or_none.Goals as goal

pub returns-clause-some : goal.returns-clause-some
returns-clause-some c = some_day

pub returns-clause-one : goal.returns-clause-one
returns-clause-one c = one_day
