use Rattle.std.proofs.Common.{map, refl}
use Rattle.std.proofs.lemmas.Result.{on_err_weaker, on_ok_weaker}
use Rattle.serial_run.proofs.RunLemmas.{after_error}
use Rattle.search_run.specs.Run.{beside_rules}
use Rattle.search_run.proofs.StoppedRuns.{stops-first}
use Rattle.search_run.proofs.top_call.run_base.Goals as goal

pub returns-then-said-clause-one_by_one : goal.returns-then-said-clause-one_by_one
returns-then-said-clause-one_by_one g c = λ files told before written.
    on_ok_weaker c.run_statements-ran.result (λ wrote. λ serial. (wrote, refl)) (c.run_statements-ran.ensures.lawful files told before written)

pub returns-then-said-clause-stopped : goal.returns-then-said-clause-stopped
returns-then-said-clause-stopped g c = λ files told before written.
    on_err_weaker c.run_statements-ran.result (λ wrote. λ serial. (wrote, refl)) (c.run_statements-ran.ensures.prefix files told before written)

pub returns-clause-stopped : goal.returns-clause-stopped
returns-clause-stopped g c = λ files told before written. after_error c.run_beside-ran.result.0 _ (λ serial. absurd (cc (c.if-said.false, serial)))

pub returns-clause-one_by_one : goal.returns-clause-one_by_one
returns-clause-one_by_one g c = λ files told before written.
    on_ok_weaker c.run_beside-ran.result.0 (λ wrote. λ serial. absurd (cc (c.if-said.false, serial))) (c.run_beside-ran.ensures.lawful files told before written)

pub returns-clause-published : goal.returns-clause-published
returns-clause-published g c = λ files told before written.
    on_ok_weaker c.run_beside-ran.result.0 (λ wrote. λ beside. rw c.into_publisher.ensures wrote) (c.run_beside-ran.ensures.lawful files told before written)

pub returns-then-said-clause-stopped_beside : goal.returns-then-said-clause-stopped_beside
returns-then-said-clause-stopped_beside g c = λ files told before written. after_error c.run_statements-ran.result _ (λ beside. absurd (cc (c.if-said.true, beside)))

pub returns-in_default-clause-stopped_beside : goal.returns-in_default-clause-stopped_beside
returns-in_default-clause-stopped_beside g c = λ files told before written. λ beside.
    stops-first (beside_rules c.args.said.batch) files (map (λ b. g.C.Collector.tally b) c.args.boxes.items) c.args.placed.now c.args.publisher.log before _ (g.F.Folder.faults c.args.folder) c.requires.base.log written

pub returns-clause-stopped_beside : goal.returns-clause-stopped_beside
returns-clause-stopped_beside g c = λ files told before written.
    on_err_weaker c.run_beside-ran.result.0 (λ wrote. λ beside. rw c.into_publisher.ensures wrote) (c.run_beside-ran.ensures.stopped files told before written)
