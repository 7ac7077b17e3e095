use Rattle.std.proofs.Common.{◌≡◌, ◌∙◌, ap, length, set, subst, sym}
use Rattle.opening_tree.specs.declared.answer.NextMove.{NextMove}
use Rattle.opening_tree.specs.Groups.{row_order}
use Rattle.opening_tree.specs.RowLists.{AreRowLists, IsNoRow, lists_in}
use Rattle.opening_tree.proofs.RowListTables.{counted-fits, lists-counted, row_lists-counted}
use Rattle.opening_tree.proofs.row_lists.RowLists.add.Goals as goal

pub row_with-requires : goal.row_with-requires
row_with-requires c =
    let s = c.args.self.now in
    let x = c.index.result.now in
    let same : row_order x ≡ row_order c.args.more = ap row_order c.index.ensures ∙ c.in-Some.ensures.order x ∙ c.play_order.ensures in
    counted-fits s.rows.items s.lists.items s.nexts.items s.firsts.items s.lasts.items c.requires.are c.args.list c.in-Some.at x c.args.more c.in-Some.ensures.in_range c.in-Some.ensures.own c.index.ensures same c.requires.room

pub returns-in-Some-clause-are : goal.returns-in-Some-clause-are
returns-in-Some-clause-are c =
    let s = c.args.self.now in
    let x = c.index.result.now in
    let same : row_order x ≡ row_order c.args.more = ap row_order c.index.ensures ∙ c.in-Some.ensures.order x ∙ c.play_order.ensures in
    subst (λ (y : NextMove). AreRowLists (set s.rows.items c.in-Some.at y) s.lists.items s.nexts.items s.firsts.items s.lasts.items) (sym c.row_with.ensures)
    (row_lists-counted s.rows.items s.lists.items s.nexts.items s.firsts.items s.lasts.items c.requires.are c.args.list c.in-Some.at x c.args.more c.in-Some.ensures.in_range c.in-Some.ensures.own c.index.ensures same c.requires.room)

pub returns-in-Some-clause-added : goal.returns-in-Some-clause-added
returns-in-Some-clause-added c =
    let s = c.args.self.now in
    let x = c.index.result.now in
    let same : row_order x ≡ row_order c.args.more = ap row_order c.index.ensures ∙ c.in-Some.ensures.order x ∙ c.play_order.ensures in
    ap (λ (y : NextMove). lists_in (length s.firsts.items) (set s.rows.items c.in-Some.at y) s.lists.items) c.row_with.ensures
    ∙ lists-counted s.rows.items s.lists.items s.nexts.items s.firsts.items s.lasts.items c.requires.are c.args.list c.in-Some.at x c.args.more c.in-Some.ensures.in_range c.in-Some.ensures.own c.index.ensures same c.requires.list

pub push-requires-clause-none : goal.push-requires-clause-none
push-requires-clause-none c = subst (IsNoRow c.args.list c.args.self.now.rows.items c.args.self.now.lists.items 0) c.play_order.ensures c.in-None.ensures.none
