use Rattle.std.proofs.Common.{◌≡◌, ◌<◌, arith, get_or, length, refl, subst, sym}
use Rattle.search_engine.specs.declared.item.Item.{Item}
use Rattle.search_engine.proofs.BlocksSearched.{so_far-more, so_far-none}
use Rattle.search_engine.proofs.search_items.Searcher.add_first_hits.Goals as goal

pub loop-item-init : goal.loop-item-init
loop-item-init g c = record {
  index = refl;
  hits = so_far-none c.args.self.now.ready.now.query c.args.self.now.filter.now c.args.self.now.ready.now.shapes c.args.items.now c.args.hits.now.items;
}

pub loop-item-preserved : goal.loop-item-preserved
loop-item-preserved g c =
    let items = c.args.items.now in
    let item : Item = c.item-item.result in
    let done = c.loop-item.done in
    let below : done < length items = omega (arith, c.loop-item.invariant.index, c.loop-item-test.true) in
    let there : item ≡ get_or items done item = subst (λ k. item ≡ get_or items k item) (sym c.loop-item.invariant.index) c.item-item.is in record {
      index = omega (arith, c.loop-item.invariant.index);
      hits = so_far-more c.args.self.now.ready.now.query c.args.self.now.filter.now c.args.self.now.ready.now.shapes items done item c.args.hits.now.items c.loop-item.hits.items c.add_block.new.hits.items below there c.loop-item.invariant.hits c.in_ok-add_block.ensures.hits;
    }

pub returns-then-branch-clause-hits : goal.returns-then-branch-clause-hits
returns-then-branch-clause-hits g c = so_far-none c.args.self.now.ready.now.query c.args.self.now.filter.now c.args.self.now.ready.now.shapes c.args.items.now c.args.hits.now.items
