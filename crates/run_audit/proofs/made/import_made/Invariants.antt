use Rattle.std.proofs.Common.{◌≡◌, length}
use Rattle.run_audit.proofs.ImportSteps.{MadeTo}
use Rattle.run_audit.proofs.made.import_made.Given as goal

-- the segments so far are behind all others
abbrev pub invariant-loop-import : goal.invariant-loop-import
invariant-loop-import g l = record {
  unasked : l.folder ≡ l.fn.folder;
  made : MadeTo (g.F.Folder.files l.fn.folder) l.batch l.games l.start l.line l.fn.base l.base l.import (g.F.Folder.faults l.fn.folder);
}

abbrev pub decreases-loop-import : goal.decreases-loop-import
decreases-loop-import g l = length l.import.left
