use Rattle.std.proofs.Common.{◌∙◌, ◌++◌, ◌∷◌, [], ℕ, List, ap, length, subst, sym}
use Rattle.std.proofs.lemmas.List.{length_push}
use Rattle.opening_tree.specs.RowLists.{AreRowLists, lists_in}
use Rattle.opening_tree.proofs.RowListTables.{lists-more, row_lists-list}
use Rattle.opening_tree.proofs.row_lists.RowLists.push_reserved_list.Goals as goal

pub returns-clause-are : goal.returns-clause-are
returns-clause-are c =
    let s = c.args.self.now in
    subst (λ (fs : List ℕ). AreRowLists s.rows.items s.lists.items s.nexts.items fs c.push_reserved.new.self.items) (sym c.push_reserved-2.ensures.items)
    (subst (λ (ls : List ℕ). AreRowLists s.rows.items s.lists.items s.nexts.items (s.firsts.items ++ 4294967295 ∷ []) ls) (sym c.push_reserved.ensures.items)
    (row_lists-list s.rows.items s.lists.items s.nexts.items s.firsts.items s.lasts.items c.requires.are c.requires.room.few))

pub returns-clause-long : goal.returns-clause-long
returns-clause-long c = ap length c.push_reserved-2.ensures.items ∙ length_push c.args.self.now.firsts.items 4294967295

pub returns-clause-added : goal.returns-clause-added
returns-clause-added c =
    let s = c.args.self.now in
    ap (λ (fs : List ℕ). lists_in (length fs) s.rows.items s.lists.items) c.push_reserved-2.ensures.items
    ∙ lists-more s.rows.items s.lists.items s.nexts.items s.firsts.items s.lasts.items c.requires.are
