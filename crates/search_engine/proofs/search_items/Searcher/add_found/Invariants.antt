use Rattle.std.proofs.Common.{◌≡◌, ◌-◌, ◌≤◌, ℕ, Some, take}
use Rattle.std.specs.List.{slice_get}
use Rattle.node_position.specs.Games.{Game}
use Rattle.search_engine.specs.Gathering.{GoOnIn, HasOccurrences, begun_at, gathered_of}
use Rattle.search_engine.specs.Hits.{AreHitsFrom}
use Rattle.search_engine.specs.Items.{games_of_item}
use Rattle.search_engine.specs.Searching.{AreCovered, AreHitsAdded}
use Rattle.search_engine.specs.StepBounds.{AreStepsIn, AreVisited}
use Rattle.search_engine.proofs.search_items.Searcher.add_found.Given as goal

abbrev pub invariant-loop-at : goal.invariant-loop-at
invariant-loop-at g l = record {
  left_in : l.item.skip ≤ l.at;
  rest : (k : ℕ) (game : Game) → l.at ≤ k → slice_get l.item.block.now k ≡ Some game → HasOccurrences l.self.ready.now.query l.self.filter.now l.self.ready.now.shapes game.tree (gathered_of l.gathered k);
  go_on : (k : ℕ) (game : Game) → l.at ≤ k → slice_get l.item.block.now k ≡ Some game → GoOnIn l.self.ready.now.query game.tree (begun_at l.gathered k);
  hits : AreCovered l.self.ready.now.query l.self.ready.now.shapes (games_of_item l.item) → AreHitsAdded (AreHitsFrom l.item.first l.self.ready.now.query l.self.filter.now (take (l.at - l.item.skip) (games_of_item l.item))) l.fn.hits.items l.hits.items;
  visited : AreVisited l.fn.hits.items l.hits.items l.fn.steps l.steps;
  steps : AreStepsIn l.self.ready.now.query (take (l.at - l.item.skip) (games_of_item l.item)) l.fn.steps l.steps;
}
