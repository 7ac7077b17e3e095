use Rattle.std.proofs.Common.{subst}
use Rattle.std.proofs.lemmas.Result.{IfOk-weaker, on_err_weaker}
use Rattle.query_script.specs.declared.statement.Placed.{Placed}
use Rattle.serial_run.specs.Run.{serial_rules}
use Rattle.serial_run.specs.Steps.{PassesStatement, StopsInStatement}
use Rattle.session_core.proofs.WatchLemmas.{fit-grown}
use Rattle.serial_run.proofs.StatementLemmas.{placed_as}
use Rattle.serial_run.proofs.statements.run_statement.Goals as goal

pub returns-in-Some-clause-passed : goal.returns-in-Some-clause-passed
returns-in-Some-clause-passed g c = λ files told before written.
    IfOk-weaker c.run_import.result _ _
    (λ next passed. subst (λ (p : Placed). PassesStatement files (serial_rules c.args.batch) c.args.state c.args.session.now p next c.args.session.now before (g.K.Sink.written c.run_import.new.out) (g.F.Folder.faults c.args.folder.now) (g.F.Folder.faults c.run_import.new.folder))
    (placed_as c.args.placed.now c.in-Some.source (rw c.in-Some.is at c.in_ok-source.ensures.some))
    (passed c.args.session.now))
    (c.run_import.ensures.passed files told before written)

pub returns-in-Some-clause-stopped : goal.returns-in-Some-clause-stopped
returns-in-Some-clause-stopped g c = λ before written.
    on_err_weaker c.run_import.result
    (λ stopped. subst (λ (p : Placed). StopsInStatement (serial_rules c.args.batch) c.args.state c.args.session.now p before (g.K.Sink.written c.run_import.new.out))
    (placed_as c.args.placed.now c.in-Some.source (rw c.in-Some.is at c.in_ok-source.ensures.some))
    (stopped c.args.session.now))
    (c.run_import.ensures.stopped before written)

pub returns-in-None-clause-passed : goal.returns-in-None-clause-passed
returns-in-None-clause-passed g c = λ files told before written.
    IfOk-weaker c.answer_alone.result _ _
    (λ next passed. record {
      text = passed.text;
      text_is = passed.text_is (serial_rules c.args.batch);
      written_is = passed.written_is;
      leads = passed.leads (serial_rules c.args.batch) files (g.F.Folder.faults c.args.folder.now);
    })
    (c.answer_alone.ensures.passed before written)

pub returns-in-None-clause-stopped : goal.returns-in-None-clause-stopped
returns-in-None-clause-stopped g c = λ before written.
    on_err_weaker c.answer_alone.result (λ stopped. stopped (serial_rules c.args.batch)) (c.answer_alone.ensures.stopped before written)

pub returns-in-Some-clause-fit : goal.returns-in-Some-clause-fit
returns-in-Some-clause-fit g c =
    IfOk-weaker c.run_import.result _ _ (λ next grown. fit-grown c.args.state.games next.games c.args.session.now grown c.requires.fit) c.run_import.ensures.grown
