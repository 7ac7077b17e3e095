use Rattle.query_script.proofs.LineStatements.{kept-none}
use Rattle.query_script.proofs.statements.kept_of.Goals as goal

pub returns-clause-none : goal.returns-clause-none
returns-clause-none c = kept-none _ _ _ c.in-Some.ensures.some c.kept_query_of.ensures.none
