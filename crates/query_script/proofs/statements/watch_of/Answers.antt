use Rattle.query_script.proofs.LineStatements.{watch-none}
use Rattle.query_script.proofs.statements.watch_of.Goals as goal

pub returns-clause-none : goal.returns-clause-none
returns-clause-none c = watch-none _ _ _ c.in-Some.ensures.some c.named_query.ensures.none
