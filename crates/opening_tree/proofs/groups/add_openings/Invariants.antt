use Rattle.std.proofs.Common.{◌≡◌, ℕ, drop}
use Rattle.opening_tree.specs.StoredGroups.{IsReadyForGroups}
use Rattle.opening_tree.proofs.StoredJoin.{IsAdding}
use Rattle.opening_tree.proofs.groups.add_openings.Given as goal

abbrev pub invariant-loop-at : goal.invariant-loop-at
invariant-loop-at l = record {
  kept : (points : ℕ) → IsReadyForGroups points l.more.entries l.fn.openings.entries → IsAdding points l.fn.openings.entries l.more.entries l.openings.entries (drop l.at l.more.entries);
  width : l.openings.width ≡ l.fn.openings.width;
}
