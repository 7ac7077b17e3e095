use Rattle.std.proofs.Common.{◌<◌, ◌∙◌, ap, arith, length, sym}
use Rattle.std.proofs.lemmas.List.{get_or_read}
use Rattle.opening_tree.specs.Groups.{row_order}
use Rattle.opening_tree.proofs.RowListWalks.{link-ascends, link-read, passed-end, passed-next, passed-start, row-there}
use Rattle.opening_tree.proofs.row_lists.RowLists.find.Goals as goal

pub loop-next-init : goal.loop-next-init
loop-next-init c =
    let s = c.args.self.now in
    passed-start c.args.list c.args.order s.rows.items s.lists.items s.nexts.items s.firsts.items s.lasts.items c.requires.are c.index-next.result.now c.requires.list
    (link-read s.firsts.items c.args.list c.index-next.result.now c.requires.list c.index-next.ensures)

pub index-row-requires : goal.index-row-requires
index-row-requires c =
    let s = c.args.self.now in
    omega (arith, row-there c.args.list s.lists.items c.loop-next.next c.loop-next.invariant.at_row c.loop-next-test.true, c.requires.are.rows_long, s.rows.ok.0)

pub returns-then-play_order-order-clause-in_range : goal.returns-then-play_order-order-clause-in_range
returns-then-play_order-order-clause-in_range c =
    let s = c.args.self.now in
    omega (arith, row-there c.args.list s.lists.items c.loop-next.next c.loop-next.invariant.at_row c.loop-next-test.true, c.requires.are.rows_long)

pub returns-then-play_order-order-clause-own : goal.returns-then-play_order-order-clause-own
returns-then-play_order-order-clause-own c =
    let s = c.args.self.now in
    c.loop-next.invariant.at_row.there (row-there c.args.list s.lists.items c.loop-next.next c.loop-next.invariant.at_row c.loop-next-test.true)

pub returns-then-play_order-order-clause-order : goal.returns-then-play_order-order-clause-order
returns-then-play_order-order-clause-order c d =
    let s = c.args.self.now in
    let lt : c.loop-next.next < length s.rows.items = omega (arith, row-there c.args.list s.lists.items c.loop-next.next c.loop-next.invariant.at_row c.loop-next-test.true, c.requires.are.rows_long) in
    ap row_order (sym (get_or_read s.rows.items c.loop-next.next c.index-row.result.now lt c.index-row.ensures d)) ∙ sym c.play_order.ensures ∙ c.if-play_order-order.true

pub index-next-requires-in-loop-next : goal.index-next-requires-in-loop-next
index-next-requires-in-loop-next c =
    let s = c.args.self.now in
    omega (arith, row-there c.args.list s.lists.items c.loop-next.next c.loop-next.invariant.at_row c.loop-next-test.true, c.requires.are.nexts_long, s.nexts.ok.0)

pub loop-next-smaller : goal.loop-next-smaller
loop-next-smaller c =
    let s = c.args.self.now in
    let lt : c.loop-next.next < length s.nexts.items = omega (arith, row-there c.args.list s.lists.items c.loop-next.next c.loop-next.invariant.at_row c.loop-next-test.true, c.requires.are.nexts_long) in
    link-ascends c.args.list c.args.order s.rows.items s.lists.items s.nexts.items s.firsts.items s.lasts.items c.requires.are c.loop-next.next c.index-next-in-loop-next.result.now c.loop-next.invariant.at_row c.loop-next-test.true
    (link-read s.nexts.items c.loop-next.next c.index-next-in-loop-next.result.now lt c.index-next-in-loop-next.ensures)

pub loop-next-preserved : goal.loop-next-preserved
loop-next-preserved c =
    let s = c.args.self.now in
    let lt : c.loop-next.next < length s.nexts.items = omega (arith, row-there c.args.list s.lists.items c.loop-next.next c.loop-next.invariant.at_row c.loop-next-test.true, c.requires.are.nexts_long) in
    passed-next c.args.list c.args.order s.rows.items s.lists.items s.nexts.items s.firsts.items s.lasts.items c.requires.are c.loop-next.next c.index-next-in-loop-next.result.now c.index-row.result.now c.loop-next.invariant c.loop-next-test.true c.index-row.ensures
    (λ e. c.if-play_order-order.false (c.play_order.ensures ∙ e))
    (link-read s.nexts.items c.loop-next.next c.index-next-in-loop-next.result.now lt c.index-next-in-loop-next.ensures)

pub returns-clause-none : goal.returns-clause-none
returns-clause-none c =
    let s = c.args.self.now in
    passed-end c.args.list c.args.order s.rows.items s.lists.items s.nexts.items s.firsts.items s.lasts.items c.requires.are c.loop-next.next c.loop-next.invariant c.loop-next-test.false
