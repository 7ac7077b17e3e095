use Rattle.opening_tree.proofs.RowListSets.{ArePutIn}
use Rattle.opening_tree.proofs.row_lists.RowLists.add_rows.Given as goal

abbrev pub invariant-loop-row : goal.invariant-loop-row
invariant-loop-row l = ArePutIn l.list l.fn.self l.self l.more l.row-index
