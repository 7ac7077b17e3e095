use Rattle.std.proofs.Common.{ap, map}
use Rattle.session_core.specs.SessionState.{SessionState}
use Rattle.search_run.specs.Run.{beside_rules}
use Rattle.search_run.proofs.JoinedRuns.{closed-run, rose_either}
use Rattle.search_run.proofs.StoppedRuns.{closed-stopped, stops-first}
use Rattle.search_run.proofs.run_beside.run_beside.Goals as goal

pub returns-clause-lawful : goal.returns-clause-lawful
returns-clause-lawful g c = λ files told before written.
    let run = c.run_all-importer in
    closed-run run.result.outcome c.close.result (beside_rules c.args.batch) files (map (λ b. g.C.Collector.tally b) c.args.boxes.items) run.new.session c.args.placed.now run.result.importer.owned.publisher before _ _ (g.F.Folder.faults c.args.importer.folder) (g.F.Folder.faults run.result.importer.folder)
    (rw c.new-session.ensures at (run.ensures.ran files told before written)) run.ensures.idle run.ensures.merged c.close.ensures.whole c.close.ensures.ran

pub returns-clause-sink_fault : goal.returns-clause-sink_fault
returns-clause-sink_fault g c = λ is.
    rose_either _ _ _ _ c.run_all-importer.ensures.sink_fault c.run_all-importer.ensures.sink_later c.close.ensures.sink_later (c.close.ensures.sink_fault is)

pub returns-in-Err-clause-stopped : goal.returns-in-Err-clause-stopped
returns-in-Err-clause-stopped g c = λ files told before written.
    stops-first (beside_rules c.args.batch) files (map (λ b. g.C.Collector.tally b) c.args.boxes.items) c.args.placed.now c.args.importer.owned.publisher.log before _ (g.F.Folder.faults c.args.importer.folder) c.requires.empty written

pub returns-clause-stopped : goal.returns-clause-stopped
returns-clause-stopped g c = λ files told before written.
    let run = c.run_all-importer in
    closed-stopped run.result.outcome c.close.result (beside_rules c.args.batch) files (map (λ b. g.C.Collector.tally b) c.args.boxes.items) run.new.session c.args.placed.now run.result.importer.owned.publisher.log before _ _ (g.F.Folder.faults c.args.importer.folder) (g.F.Folder.faults run.result.importer.folder)
    (rw c.new-session.ensures at (run.ensures.ran files told before written)) (rw c.new-session.ensures at (run.ensures.stopped files told before written)) c.close.ensures.part

pub run_all-importer-requires-clause-unwatched : goal.run_all-importer-requires-clause-unwatched
run_all-importer-requires-clause-unwatched g c = λ lifetimes bounds. ap (λ (s : SessionState). s.watches) c.new-session.ensures
