use Rattle.std.proofs.Common.{◌++◌, ◌∷◌, subst, take}
use Rattle.std.proofs.lemmas.Result.{IfOk-weaker, on_err_weaker}
use Rattle.query_script.specs.declared.statement.Placed.{Placed}
use Rattle.search_run.specs.Beside.{HasRunTo}
use Rattle.search_run.specs.Run.{beside_rules}
use Rattle.search_run.specs.Stopped.{WritesPublishedPrefix}
use Rattle.serial_run.proofs.StatementLemmas.{placed_as}
use Rattle.search_run.proofs.JoinedRuns.{still-ran}
use Rattle.search_run.proofs.StoppedRuns.{nothing-written, still-stops}
use Rattle.search_run.proofs.run_beside.run_next.Goals as goal

pub returns-in-Ok-Some-clause-ran : goal.returns-in-Ok-Some-clause-ran
returns-in-Ok-Some-clause-ran g c = λ files told.
    let now = c.run_import.result in
    IfOk-weaker now.outcome _ _ (λ r ran. λ start done before first h.
    subst (λ (p : Placed). HasRunTo (beside_rules c.args.batch) files start (done ++ p ∷ take r.1 c.args.rest.now) r.0 c.run_import.new.session now.importer.owned.publisher.log before (g.K.Sink.written c.run_import.new.out) first (g.F.Folder.faults now.importer.folder))
    (placed_as c.args.placed.now c.in-Ok-Some.source (rw (c.in-Ok-Some.is, c.in-Ok-Some.field-0-is) at c.source_of.ensures.some))
    (ran start done before first h))
    (c.run_import.ensures.ran files told)

pub returns-in-Ok-None-clause-ran : goal.returns-in-Ok-None-clause-ran
returns-in-Ok-None-clause-ran g c = λ files told.
    still-ran (beside_rules c.args.batch) files c.args.session.now c.answer_still-outcome.new.session c.args.placed.now c.args.rest.now c.args.state c.args.importer.owned.publisher.log _ _ _ c.answer_still-outcome.result
    (rw (c.in-Ok-None.is, c.in-Ok-None.field-0-is) at c.source_of.ensures.none) c.answer_still-outcome.ensures.passed c.answer_still-outcome.ensures.alone

pub returns-in-Ok-Some-clause-stopped : goal.returns-in-Ok-Some-clause-stopped
returns-in-Ok-Some-clause-stopped g c = λ files told.
    let now = c.run_import.result in
    on_err_weaker now.outcome (λ stopped. λ start done before first h.
    subst (λ (p : Placed). WritesPublishedPrefix (beside_rules c.args.batch) files start (done ++ p ∷ c.args.rest.now) before (g.K.Sink.written c.run_import.new.out) first (g.F.Folder.faults now.importer.folder) now.importer.owned.publisher.log)
    (placed_as c.args.placed.now c.in-Ok-Some.source (rw (c.in-Ok-Some.is, c.in-Ok-Some.field-0-is) at c.source_of.ensures.some))
    (stopped start done before first h))
    (c.run_import.ensures.stopped files told)

pub returns-in-Ok-None-clause-stopped : goal.returns-in-Ok-None-clause-stopped
returns-in-Ok-None-clause-stopped g c = λ files told.
    still-stops (beside_rules c.args.batch) files c.args.session.now c.args.placed.now c.args.rest.now c.args.state c.args.importer.owned.publisher.log _ _ _ c.answer_still-outcome.result c.answer_still-outcome.ensures.stopped

pub returns-in-Err-clause-stopped : goal.returns-in-Err-clause-stopped
returns-in-Err-clause-stopped g c = λ files told. λ start done before first h.
    nothing-written (beside_rules c.args.batch) files c.args.session.now c.args.placed.now c.args.rest.now c.args.state c.args.importer.owned.publisher.log _ _ start done before first h
