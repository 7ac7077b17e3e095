use Rattle.hit_collectors.proofs.Counts.{told_more, told_none}
use Rattle.hit_collectors.proofs.laws.hits_add_up_to_their_counts.Goals as goal

pub returns-clause-none : goal.returns-clause-none
returns-clause-none c = told_none

pub returns-clause-more : goal.returns-clause-more
returns-clause-more c = told_more
