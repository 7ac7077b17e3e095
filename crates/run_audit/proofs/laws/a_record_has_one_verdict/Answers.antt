use Rattle.run_audit.proofs.Verdicts.{verdict-found, verdict-one, verdicts-exact}
use Rattle.run_audit.proofs.laws.a_record_has_one_verdict.Goals as goal

pub returns-clause-some : goal.returns-clause-some
returns-clause-some c = λ files rules boxes script placed recorded some spelled names. verdict-found files rules boxes script placed recorded some spelled names

pub returns-clause-one : goal.returns-clause-one
returns-clause-one c = λ files rules boxes script placed recorded one other some spelled names. verdict-one files rules boxes script placed recorded some spelled names one other

pub returns-clause-exact : goal.returns-clause-exact
returns-clause-exact c = λ files rules boxes script placed recorded some spelled names. verdicts-exact files rules boxes script placed recorded some spelled names
