use Rattle.std.proofs.Common.{◌≡◌, ℕ, [], length}
use Rattle.ready_images.specs.Placing.{list_at}
use Rattle.ready_images.proofs.ClassLists.{lists_of}
use Rattle.ready_images.proofs.rows.no_lists.Given as goal

-- the empty lists so far
abbrev pub invariant-loop-class : goal.invariant-loop-class
invariant-loop-class l = record {
  count : length l.lists.items ≡ l._class;
  empty : (c : ℕ) → list_at (lists_of l.lists.items) c ≡ [];
}
