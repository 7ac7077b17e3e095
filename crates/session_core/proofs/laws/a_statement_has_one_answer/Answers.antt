use Rattle.session_core.proofs.OneAnswer.{answer-found, answer-unique}
use Rattle.session_core.proofs.laws.a_statement_has_one_answer.Goals as goal

pub returns-clause-some : goal.returns-clause-some
returns-clause-some c = λ line view boxes own answered trees. answer-found line view trees boxes own answered

pub returns-clause-one : goal.returns-clause-one
returns-clause-one c = λ line view boxes own a b after other trees one too. answer-unique line view trees boxes own a b after other one too
