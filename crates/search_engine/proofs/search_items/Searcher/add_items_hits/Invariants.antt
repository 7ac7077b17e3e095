use Rattle.std.proofs.Common.{take}
use Rattle.search_engine.specs.Items.{games_of_items}
use Rattle.search_engine.specs.StepBounds.{AreStepsIn, AreVisited}
use Rattle.search_engine.proofs.BlocksSearched.{so_far}
use Rattle.search_engine.proofs.search_items.Searcher.add_items_hits.Given as goal

abbrev pub invariant-loop-item : goal.invariant-loop-item
invariant-loop-item g l = record {
  hits : so_far l.self.ready.now.query l.self.filter.now l.self.ready.now.shapes l.items l.item-index l.fn.hits.items l.hits.items;
  visited : AreVisited l.fn.hits.items l.hits.items l.fn.steps l.steps;
  steps : AreStepsIn l.self.ready.now.query (games_of_items (take l.item-index l.items)) l.fn.steps l.steps;
}
