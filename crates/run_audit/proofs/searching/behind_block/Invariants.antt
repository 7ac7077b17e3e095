use Rattle.std.proofs.Common.{◌≡◌, ◌≤◌, drop, length}
use Rattle.run_audit.specs.Standing.{kept_last}
use Rattle.run_audit.proofs.BlockStates.{BlocksTo}
use Rattle.run_audit.proofs.searching.behind_block.Given as goal

-- the first searches were passed
abbrev pub invariant-loop-p : goal.invariant-loop-p
invariant-loop-p g l = record {
  watched : l.session.watches ≡ l.fn.session.watches;
  low : l.greatest ≤ kept_last l.base;
  shorter : length l.left ≤ length l.fn.left;
  so_far : BlocksTo l.serial l.base l.fn.session l.fn.left l.searches (drop l.p-index l.searches) l.left l.session l.greatest;
}
