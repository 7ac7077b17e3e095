use Rattle.continuation_table.proofs.OneTable.{one_table}
use Rattle.continuation_table.proofs.SomeTable.{some_table}
use Rattle.continuation_table.proofs.laws.a_list_of_hits_has_one_table.Goals as goal

pub returns-clause-some : goal.returns-clause-some
returns-clause-some c = some_table

pub returns-clause-one : goal.returns-clause-one
returns-clause-one c = one_table
