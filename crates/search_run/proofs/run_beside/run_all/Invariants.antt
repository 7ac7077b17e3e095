use Rattle.std.proofs.Common.{◌≡◌, ◌≤◌, ◌*◌, ◌-◌, length, take}
use Rattle.kb_edges.specs.Told.{IfTold}
use Rattle.session_core.specs.Watches.{WatchesFit}
use Rattle.search_run.specs.Beside.{HasRunTo, StandsStill}
use Rattle.search_run.specs.Run.{beside_rules}
use Rattle.search_run.proofs.run_beside.run_all.Given as goal

abbrev pub invariant-loop-next : goal.invariant-loop-next
invariant-loop-next g l = record {
  inside : l.next ≤ length l.placed;
  few : length l.importer.owned.publisher.log ≤ l.next * 4294967295;
  stands : StandsStill g.J.OpenName.opening l.importer.owned.publisher l.searchers.own l.state;
  fit : WatchesFit l.state.games l.session;
  same : g.F.Folder.files l.importer.folder ≡ g.F.Folder.files l.fn.importer.folder;
  later : g.F.Folder.faults l.fn.importer.folder ≤ g.F.Folder.faults l.importer.folder;
  sink_later : g.K.Sink.faults l.fn.out ≤ g.K.Sink.faults l.out;
  ran : IfTold (g.F.Folder.files l.fn.importer.folder) (λ files. IfTold (g.K.Sink.written l.fn.out) (λ before. HasRunTo (beside_rules l.fn.batch) files l.fn.session.boxes (take l.next l.placed) l.state l.session l.importer.owned.publisher.log before (g.K.Sink.written l.out) (g.F.Folder.faults l.fn.importer.folder) (g.F.Folder.faults l.importer.folder)));
}

abbrev pub decreases-loop-next : goal.decreases-loop-next
decreases-loop-next g l = length l.placed - l.next
