use Rattle.std.proofs.Common.{◌≡◌, ◌≤◌, ◌*◌, map, take}
use Rattle.kb_edges.specs.Told.{IfTold}
use Rattle.session_core.specs.Watches.{WatchesFit}
use Rattle.serial_run.specs.Run.{serial_rules}
use Rattle.serial_run.specs.Steps.{HasRun}
use Rattle.serial_run.proofs.statements.run_statements.Given as goal

abbrev pub invariant-loop-statement : goal.invariant-loop-statement
invariant-loop-statement g l = record {
  same : g.F.Folder.files l.folder ≡ g.F.Folder.files l.fn.folder;
  later : g.F.Folder.faults l.fn.folder ≤ g.F.Folder.faults l.folder;
  sink_later : g.K.Sink.faults l.fn.out ≤ g.K.Sink.faults l.out;
  fit : WatchesFit l.state.games l.session;
  version : l.state.version ≤ l.statement-index * 4294967295;
  run : IfTold (g.F.Folder.files l.fn.folder) (λ files. IfTold (g.K.Sink.written l.fn.out) (λ before. HasRun (serial_rules l.fn.batch) files (map (λ b. g.C.Collector.tally b) l.fn.boxes.items) (take l.statement-index l.placed) l.state l.session before (g.K.Sink.written l.out) (g.F.Folder.faults l.fn.folder) (g.F.Folder.faults l.folder)));
}
