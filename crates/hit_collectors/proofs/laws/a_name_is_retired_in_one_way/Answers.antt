use Rattle.hit_collectors.specs.Tallies.{BoxTally}
use Rattle.hit_collectors.proofs.RetiredOnce.{none_retired, one_retired, some_retired}
use Rattle.hit_collectors.proofs.laws.a_name_is_retired_in_one_way.Goals as goal

pub returns-clause-some : goal.returns-clause-some
returns-clause-some c = λ boxes name. some_retired (λ (told : BoxTally). told.name) name boxes

pub returns-clause-one : goal.returns-clause-one
returns-clause-one c = λ boxes a b name. one_retired (λ (told : BoxTally). told.name) name boxes a b

pub returns-clause-apart : goal.returns-clause-apart
returns-clause-apart c = λ boxes left name. none_retired (λ (told : BoxTally). told.name) name boxes left
