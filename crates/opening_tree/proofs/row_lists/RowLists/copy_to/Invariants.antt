use Rattle.std.proofs.Common.{◌-◌}
use Rattle.opening_tree.proofs.RowListWalks.{IsCopied}
use Rattle.opening_tree.proofs.row_lists.RowLists.copy_to.Given as goal

abbrev pub invariant-loop-next : goal.invariant-loop-next
invariant-loop-next l = IsCopied l.list l.rows.items l.self.rows.items l.self.lists.items l.next

abbrev pub decreases-loop-next : goal.decreases-loop-next
decreases-loop-next l = 4294967295 - l.next
