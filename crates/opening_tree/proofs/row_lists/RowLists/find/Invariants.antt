use Rattle.std.proofs.Common.{◌-◌}
use Rattle.opening_tree.proofs.RowListWalks.{IsPassed}
use Rattle.opening_tree.proofs.row_lists.RowLists.find.Given as goal

abbrev pub invariant-loop-next : goal.invariant-loop-next
invariant-loop-next l = IsPassed l.list l.order l.self.rows.items l.self.lists.items l.next

abbrev pub decreases-loop-next : goal.decreases-loop-next
decreases-loop-next l = 4294967295 - l.next
