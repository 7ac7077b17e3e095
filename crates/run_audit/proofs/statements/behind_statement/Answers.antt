use Rattle.std.proofs.Common.{arith}
use Rattle.std.proofs.lemmas.Grind.{common_steps}
use Rattle.std.proofs.lemmas.Result.{IfOk-weaker}
use Rattle.run_audit.proofs.Departures.{both-ok}
use Rattle.run_audit.proofs.ImportStates.{wait-departs, wait-passes}
use Rattle.run_audit.proofs.statements.behind_statement.Goals as goal

pub returns-in-Wait-clause-passed : goal.returns-in-Wait-clause-passed
returns-in-Wait-clause-passed g c =
    IfOk-weaker c.behind_wait.result _ _
    (λ rest both. λ files recorded rules same. wait-passes files rules recorded c.args.left.now c.args.placed.now c.args.base.now c.args.session.now c.in-Wait.is rest.now c.behind_wait.new.base both.0 both.1)
    (both-ok c.behind_wait.result _ _ c.behind_wait.ensures.stands c.behind_wait.ensures.joined)

pub returns-in-Wait-clause-departs : goal.returns-in-Wait-clause-departs
returns-in-Wait-clause-departs g c = λ count is files recorded rules same.
    wait-departs files rules recorded c.args.left.now c.args.placed.now c.args.base.now c.args.session.now c.in-Wait.is count (c.behind_wait.ensures.departs count is)

pub returns-in-Together-clause-departs : goal.returns-in-Together-clause-departs
returns-in-Together-clause-departs g c = λ count is files recorded rules same.
    c.behind_block.ensures.departs count is files recorded rules c.args.placed.now same (first_of (search rules, grind (arith, common_steps)))
