use Rattle.std.proofs.Common.{◌≡◌, ◌<◌, ◌∙◌, ◌++◌, ◌∷◌, [], ℕ, List, ap, arith, length, subst, sym}
use Rattle.std.specs.Vec.{with_items}
use Rattle.std.proofs.lemmas.List.{length_push, with_items_is}
use Rattle.opening_tree.specs.declared.answer.NextMove.{NextMove}
use Rattle.opening_tree.specs.RowLists.{AreRowLists, lists_in}
use Rattle.opening_tree.proofs.RowListTables.{chained-written, last-below, lists-pushed, row_lists-written}
use Rattle.opening_tree.proofs.row_lists.RowLists.push.Goals as goal

pub returns-clause-are : goal.returns-clause-are
returns-clause-are c =
    let s = c.args.self.now in
    let rows : c.push_reserved.new.self.items ≡ s.rows.items ++ c.args.row ∷ [] = c.push_reserved.ensures.items ∙ ap (λ (rs : List NextMove). rs ++ c.args.row ∷ []) c.reserve.ensures.items in
    let lists : c.push_reserved-2.new.self.items ≡ s.lists.items ++ c.args.list ∷ [] = c.push_reserved-2.ensures.items ∙ ap (λ (ls : List ℕ). ls ++ c.args.list ∷ []) c.reserve-2.ensures.items in
    let nexts : c.push_reserved-3.new.self.items ≡ s.nexts.items ++ 4294967295 ∷ [] = c.push_reserved-3.ensures.items ∙ ap (λ (ns : List ℕ). ns ++ 4294967295 ∷ []) c.reserve-3.ensures.items in
    let few : length s.lists.items < 4294967295 = omega (arith, c.if-at-ge-MOST.false, c.len-at.ensures, s.rows.ok.0, c.requires.are.rows_long) in
    let links_long : length c.chain.new.nexts ≡ length c.push_reserved-3.new.self.items = c.chain.auto.nexts ∙ ap length c.as_mut_slice.ensures.value in
    let begins_long : length c.chain.new.firsts ≡ length s.firsts.items = c.chain.auto.firsts ∙ ap length c.as_mut_slice-2.ensures.value in
    let ends_long : length c.chain.new.lasts ≡ length s.lasts.items = c.chain.auto.lasts ∙ ap length c.as_mut_slice-3.ensures.value in
    let is_links = with_items_is c.push_reserved-3.new.self c.chain.new.nexts (links_long ∙ sym c.push_reserved-3.new.self.ok.0) in
    let is_begins = with_items_is s.firsts c.chain.new.firsts (begins_long ∙ sym s.firsts.ok.0) in
    let is_ends = with_items_is s.lasts c.chain.new.lasts (ends_long ∙ sym s.lasts.ok.0) in
    let chained = chained-written s.rows.items s.lists.items s.nexts.items s.firsts.items s.lasts.items c.requires.are c.args.list c.args.row c.requires.list few c.requires.none c.requires.room
    c.as_mut_slice.result.now c.as_mut_slice-2.result.now c.as_mut_slice-3.result.now c.chain.new.nexts c.chain.new.firsts c.chain.new.lasts
    (c.as_mut_slice.ensures.value ∙ nexts) c.as_mut_slice-2.ensures.value c.as_mut_slice-3.ensures.value c.chain.ensures.lasts c.chain.ensures.first c.chain.ensures.next in
    subst (λ (ls : List ℕ). AreRowLists c.push_reserved.new.self.items c.push_reserved-2.new.self.items ls (with_items s.firsts c.chain.new.firsts).items (with_items s.lasts c.chain.new.lasts).items) (sym is_links)
    (subst (λ (bs : List ℕ). AreRowLists c.push_reserved.new.self.items c.push_reserved-2.new.self.items c.chain.new.nexts bs (with_items s.lasts c.chain.new.lasts).items) (sym is_begins)
    (subst (λ (es : List ℕ). AreRowLists c.push_reserved.new.self.items c.push_reserved-2.new.self.items c.chain.new.nexts c.chain.new.firsts es) (sym is_ends)
    (row_lists-written s.rows.items s.lists.items s.nexts.items s.firsts.items s.lasts.items c.requires.are c.args.list c.args.row c.requires.list few c.requires.none c.requires.room
    c.push_reserved.new.self.items c.push_reserved-2.new.self.items c.chain.new.nexts c.chain.new.firsts c.chain.new.lasts rows lists
    (links_long ∙ ap length nexts ∙ length_push s.nexts.items 4294967295) begins_long ends_long chained)))

pub returns-clause-added : goal.returns-clause-added
returns-clause-added c =
    let s = c.args.self.now in
    let rows : c.push_reserved.new.self.items ≡ s.rows.items ++ c.args.row ∷ [] = c.push_reserved.ensures.items ∙ ap (λ (rs : List NextMove). rs ++ c.args.row ∷ []) c.reserve.ensures.items in
    let lists : c.push_reserved-2.new.self.items ≡ s.lists.items ++ c.args.list ∷ [] = c.push_reserved-2.ensures.items ∙ ap (λ (ls : List ℕ). ls ++ c.args.list ∷ []) c.reserve-2.ensures.items in
    let few : length s.lists.items < 4294967295 = omega (arith, c.if-at-ge-MOST.false, c.len-at.ensures, s.rows.ok.0, c.requires.are.rows_long) in
    let begins_long : length c.chain.new.firsts ≡ length s.firsts.items = c.chain.auto.firsts ∙ ap length c.as_mut_slice-2.ensures.value in
    let is_begins = with_items_is s.firsts c.chain.new.firsts (begins_long ∙ sym s.firsts.ok.0) in
    (λ i. lists_in (length (with_items s.firsts c.chain.new.firsts).items) (rows i) (lists i))
    ∙ lists-pushed s.rows.items s.lists.items s.nexts.items s.firsts.items s.lasts.items c.requires.are c.args.list c.args.row c.requires.list few c.requires.none c.requires.room
    (length (with_items s.firsts c.chain.new.firsts).items) (ap length is_begins ∙ begins_long)

pub chain-requires-clause-some : goal.chain-requires-clause-some
chain-requires-clause-some c = omega (arith, ap length c.as_mut_slice.ensures.value, ap length c.push_reserved-3.ensures.items, length_push c.reserve-3.new.self.items 4294967295)

pub chain-requires-clause-few : goal.chain-requires-clause-few
chain-requires-clause-few c =
    let s = c.args.self.now in
    omega (
      arith,
      ap length c.as_mut_slice.ensures.value,
      ap length c.push_reserved-3.ensures.items,
      length_push c.reserve-3.new.self.items 4294967295,
      ap length c.reserve-3.ensures.items,
      c.requires.are.nexts_long,
      c.if-at-ge-MOST.false,
      c.len-at.ensures,
      s.rows.ok.0,
      c.requires.are.rows_long,
    )

pub chain-requires-clause-list : goal.chain-requires-clause-list
chain-requires-clause-list c = omega (arith, c.requires.list, ap length c.as_mut_slice-2.ensures.value)

pub chain-requires-clause-long : goal.chain-requires-clause-long
chain-requires-clause-long c = ap length c.as_mut_slice-3.ensures.value ∙ c.requires.are.lasts_long ∙ sym (ap length c.as_mut_slice-2.ensures.value)

pub chain-requires-clause-before : goal.chain-requires-clause-before
chain-requires-clause-before c =
    let s = c.args.self.now in
    let nexts : c.push_reserved-3.new.self.items ≡ s.nexts.items ++ 4294967295 ∷ [] = c.push_reserved-3.ensures.items ∙ ap (λ (ns : List ℕ). ns ++ 4294967295 ∷ []) c.reserve-3.ensures.items in
    last-below s.rows.items s.lists.items s.nexts.items s.firsts.items s.lasts.items c.requires.are c.args.list c.as_mut_slice-3.result.now c.as_mut_slice.result.now c.requires.list c.as_mut_slice-3.ensures.value (c.as_mut_slice.ensures.value ∙ nexts)
