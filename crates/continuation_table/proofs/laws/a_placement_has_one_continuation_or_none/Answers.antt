use Rattle.continuation_table.proofs.OneContinuation.{one_continuation}
use Rattle.continuation_table.proofs.ToldContinuations.{told_continuation}
use Rattle.continuation_table.proofs.laws.a_placement_has_one_continuation_or_none.Goals as goal

pub returns-clause-one_or_none : goal.returns-clause-one_or_none
returns-clause-one_or_none c = λ tree changes placement n is_tree placed. told_continuation tree is_tree changes placement placed n

pub returns-clause-one : goal.returns-clause-one
returns-clause-one c = one_continuation
