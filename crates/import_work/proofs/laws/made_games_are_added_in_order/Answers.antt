use Rattle.import_work.proofs.MadeSteps.{added-first}
use Rattle.import_work.proofs.laws.made_games_are_added_in_order.Goals as goal

pub returns : goal.returns
returns c = added-first
