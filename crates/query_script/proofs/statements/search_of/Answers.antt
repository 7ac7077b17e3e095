use Rattle.query_script.proofs.LineStatements.{search-none}
use Rattle.query_script.proofs.statements.search_of.Goals as goal

pub returns-clause-none : goal.returns-clause-none
returns-clause-none c = search-none _ _ _ c.in-Some.ensures.some c.filtered_query.ensures.none
