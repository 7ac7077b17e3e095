use Rattle.run_audit.proofs.FewVersions.{few-script}
use Rattle.run_audit.proofs.GuidedFound.{guided-found}
use Rattle.run_audit.proofs.OneGuided.{guided-one}
use Rattle.run_audit.proofs.laws.a_record_has_one_guided_output.Goals as goal

pub returns-clause-some : goal.returns-clause-some
returns-clause-some c = λ files rules boxes script placed recorded some is. guided-found files rules boxes recorded placed (few-script rules script placed some is)

pub returns-clause-one : goal.returns-clause-one
returns-clause-one c = λ files rules boxes script placed recorded one other some is. guided-one files rules boxes recorded placed one other (few-script rules script placed some is)
