use Rattle.std.proofs.Common.{◌<◌, List, arith, length, subst, sym}
use Rattle.opening_tree.specs.declared.answer.NextMove.{NextMove}
use Rattle.opening_tree.proofs.RowListWalks.{IsCopied, copied-end, copied-next, copied-room, copied-start, link-ascends, link-read, row-there}
use Rattle.opening_tree.proofs.RowsSorted.{rows-sorted}
use Rattle.opening_tree.proofs.row_lists.RowLists.copy_to.Goals as goal

pub loop-next-init : goal.loop-next-init
loop-next-init c =
    let s = c.args.self.now in
    subst (λ (rs : List NextMove). IsCopied c.args.list rs s.rows.items s.lists.items c.index-next.result.now) (sym c.clear.ensures.items)
    (copied-start c.args.list s.rows.items s.lists.items s.nexts.items s.firsts.items s.lasts.items c.requires.are c.index-next.result.now c.requires.list
    (link-read s.firsts.items c.args.list c.index-next.result.now c.requires.list c.index-next.ensures))

pub index-requires : goal.index-requires
index-requires c =
    let s = c.args.self.now in
    omega (arith, row-there c.args.list s.lists.items c.loop-next.next c.loop-next.invariant.at_row c.loop-next-test.true, c.requires.are.rows_long, s.rows.ok.0)

pub add_row-requires : goal.add_row-requires
add_row-requires c =
    let s = c.args.self.now in
    copied-room c.args.list s.rows.items s.lists.items s.nexts.items s.firsts.items s.lasts.items c.requires.are c.loop-next.rows.items c.loop-next.next c.index.result.now c.loop-next.invariant c.loop-next-test.true c.index.ensures c.requires.list

pub index-next-requires-in-loop-next : goal.index-next-requires-in-loop-next
index-next-requires-in-loop-next c =
    let s = c.args.self.now in
    omega (arith, row-there c.args.list s.lists.items c.loop-next.next c.loop-next.invariant.at_row c.loop-next-test.true, c.requires.are.nexts_long, s.nexts.ok.0)

pub loop-next-smaller : goal.loop-next-smaller
loop-next-smaller c =
    let s = c.args.self.now in
    let lt : c.loop-next.next < length s.nexts.items = omega (arith, row-there c.args.list s.lists.items c.loop-next.next c.loop-next.invariant.at_row c.loop-next-test.true, c.requires.are.nexts_long) in
    link-ascends c.args.list 0 s.rows.items s.lists.items s.nexts.items s.firsts.items s.lasts.items c.requires.are c.loop-next.next c.index-next-in-loop-next.result.now c.loop-next.invariant.at_row c.loop-next-test.true
    (link-read s.nexts.items c.loop-next.next c.index-next-in-loop-next.result.now lt c.index-next-in-loop-next.ensures)

pub loop-next-preserved : goal.loop-next-preserved
loop-next-preserved c =
    let s = c.args.self.now in
    let lt : c.loop-next.next < length s.nexts.items = omega (arith, row-there c.args.list s.lists.items c.loop-next.next c.loop-next.invariant.at_row c.loop-next-test.true, c.requires.are.nexts_long) in
    copied-next c.args.list s.rows.items s.lists.items s.nexts.items s.firsts.items s.lasts.items c.requires.are c.loop-next.rows.items c.loop-next.next c.index.result.now c.loop-next.invariant c.loop-next-test.true c.index.ensures c.index-next-in-loop-next.result.now c.add_row.new.rows.items
    (link-read s.nexts.items c.loop-next.next c.index-next-in-loop-next.result.now lt c.index-next-in-loop-next.ensures) c.in_ok-add_row.ensures

pub returns-clause-rows : goal.returns-clause-rows
returns-clause-rows c =
    let s = c.args.self.now in
    copied-end c.args.list s.rows.items s.lists.items s.nexts.items s.firsts.items s.lasts.items c.requires.are c.loop-next.rows.items c.loop-next.next c.loop-next.invariant c.loop-next-test.false

pub returns-clause-sorted : goal.returns-clause-sorted
returns-clause-sorted c =
    let s = c.args.self.now in
    rows-sorted c.args.list c.loop-next.rows.items s.rows.items s.lists.items
    (copied-end c.args.list s.rows.items s.lists.items s.nexts.items s.firsts.items s.lasts.items c.requires.are c.loop-next.rows.items c.loop-next.next c.loop-next.invariant c.loop-next-test.false)
