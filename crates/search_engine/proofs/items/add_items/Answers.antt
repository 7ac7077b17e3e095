use Rattle.std.proofs.Common.{◌-◌, ◌++◌, ◌∙◌, ap, arith, drop, length, length-drop, subst, sym, take}
use Rattle.std.proofs.lemmas.List.{take_all}
use Rattle.segment_store.specs.Blocks.{games_in}
use Rattle.search_engine.specs.Items.{AreItems}
use Rattle.search_engine.proofs.ItemLists.{AreItems-start, block_within, blocks_to_next, number_before}
use Rattle.search_engine.proofs.items.add_items.Goals as goal

pub add_item-requires : goal.add_item-requires
add_item-requires c =
    let p = c.numbered-item.result in
    let within = block_within c.blocks-numbered-items.result.now c.loop-numbered.numbered-index p c.blocks-numbered-items.ensures.numbered c.loop-numbered-test.true c.numbered-item.is in
    let from = c.args.from in
    omega (arith, within, ap length c.blocks-numbered-items.ensures.games, ap length c.deref-block.ensures, c.requires, length-drop from c.args.part.now, length-drop (from - p.first) c.deref-block.result.now)

pub loop-numbered-init : goal.loop-numbered-init
loop-numbered-init c base games are number = AreItems-start base c.args.from games c.args.items.now.items are

pub loop-numbered-preserved : goal.loop-numbered-preserved
loop-numbered-preserved c base games are number =
    let blocks = c.blocks-numbered-items.result.now in
    let k = c.loop-numbered.numbered-index in
    let p = c.numbered-item.result in
    let before = games_in (take k blocks) in
    let at = number_before blocks k p c.blocks-numbered-items.ensures.numbered c.loop-numbered-test.true c.numbered-item.is in
    let next = blocks_to_next blocks k p c.blocks-numbered-items.ensures.numbered c.loop-numbered-test.true c.numbered-item.is in
    let all = ap (λ gs. before ++ gs) c.deref-block.ensures ∙ sym next in
    subst (λ gs. AreItems base (games ++ drop c.args.from gs) c.add_item.new.items.items) all
    (c.in_ok-add_item.ensures base games before (c.loop-numbered.invariant base games are number) number at)

pub returns : goal.returns
returns c base games are number =
    subst (λ gs. AreItems base (games ++ drop c.args.from gs) c.loop-numbered.items.items) (ap games_in (take_all c.loop-numbered.numbered-index c.blocks-numbered-items.result.now (omega (arith, c.loop-numbered-test.false))) ∙ c.blocks-numbered-items.ensures.games) (c.loop-numbered.invariant base games are number)
