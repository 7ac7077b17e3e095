use Rattle.std.proofs.Common.{[], arith, sym, subst}
use Rattle.search_engine.specs.Items.{AreItems}
use Rattle.search_engine.proofs.ItemLists.{AreItems-none}
use Rattle.search_engine.proofs.items.items_of_part.Goals as goal

pub returns : goal.returns
returns c = c.in_ok-add_items.ensures c.args.first [] (subst (AreItems c.args.first []) (sym c.new-items.ensures.items) (AreItems-none c.args.first)) (omega arith)
