use Rattle.std.proofs.Common.{◌≡◌}
use Rattle.search_engine.specs.Searching.{AreFirstHitsAdded}
use Rattle.search_engine.proofs.search_items.Searcher.add_first_hits.Given as goal

abbrev pub invariant-loop-item : goal.invariant-loop-item
invariant-loop-item g l = record {
  index : l.done ≡ l.item-index;
  hits : AreFirstHitsAdded l.self.ready.now.query l.self.filter.now l.self.ready.now.shapes l.items l.done l.fn.hits.items l.hits.items;
}
