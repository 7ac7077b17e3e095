use Rattle.opening_tree.proofs.RowListTables.{row_lists-none}
use Rattle.opening_tree.proofs.row_lists.RowLists.new.Goals as goal

pub returns-clause-are : goal.returns-clause-are
returns-clause-are c =
    row_lists-none c.new.result.items c.new-2.result.items c.new-3.result.items c.new-4.result.items c.new-5.result.items
    c.new.ensures.items c.new-2.ensures.items c.new-3.ensures.items c.new-4.ensures.items c.new-5.ensures.items
