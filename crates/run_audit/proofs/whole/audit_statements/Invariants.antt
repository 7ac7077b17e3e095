use Rattle.std.proofs.Common.{◌≡◌, ◌≤◌, ◌*◌, List, ℕ, length, map, take}
use Rattle.kb_edges.specs.Told.{IfTold}
use Rattle.serial_run.specs.Script.{IsScript}
use Rattle.run_audit.specs.AuditWords.{rules_of}
use Rattle.run_audit.specs.Standing.{FitsFloor, FitsTogether, kept_last}
use Rattle.run_audit.proofs.WholeSteps.{WholeTo}
use Rattle.run_audit.proofs.whole.audit_statements.Given as goal

-- the statements so far were passed
abbrev pub invariant-loop-p : goal.invariant-loop-p
invariant-loop-p g l = record {
  same : g.F.Folder.files l.folder ≡ g.F.Folder.files l.fn.folder;
  later : g.F.Folder.faults l.fn.folder ≤ g.F.Folder.faults l.folder;
  fits : FitsTogether l.base;
  watched : FitsFloor l.base l.session;
  number : kept_last l.base ≤ l.p-index * 4294967295;
  shorter : length l.left ≤ length l.recorded;
  passed : IfTold (g.F.Folder.files l.fn.folder) (λ files. (script : List ℕ) → IsScript script l.placed →
      WholeTo files (rules_of l.words) (map (λ b. g.C.Collector.tally b) l.fn.boxes.items) l.recorded (take l.p-index l.placed) l.left l.base l.session);
}
