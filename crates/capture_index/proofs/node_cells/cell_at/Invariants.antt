use Rattle.std.proofs.Common.{◌≡◌, drop}
use Rattle.capture_index.specs.Runs.{cell_by}
use Rattle.capture_index.proofs.node_cells.cell_at.Given as goal

abbrev pub invariant-loop-run : goal.invariant-loop-run
invariant-loop-run l = cell_by l.runs l.node ≡ cell_by (drop l.run-index l.runs) l.node
