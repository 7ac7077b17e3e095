use Rattle.std.proofs.Common.{◌+◌, ◌≤◌, take}
use Rattle.game_tree.specs.Tree.{node_count}
use Rattle.run_matcher.specs.GoingOn.{occurrences_of}
use Rattle.search_engine.specs.Hits.{AreHitsOf}
use Rattle.search_engine.specs.Searching.{AreHitsAdded}
use Rattle.search_engine.proofs.NodesVisited.{AreVisitedTo}
use Rattle.search_engine.proofs.game_hits.SearchedGame.add_hits.Given as goal

abbrev pub invariant-loop-one : goal.invariant-loop-one
invariant-loop-one g l = record {
  hits : AreHitsAdded (AreHitsOf l.self.query.now l.self.number l.self.game.now.tree l.deltas l.self.ready.now.images.placements (take l.one-index (occurrences_of l.begun))) l.fn.hits.items l.hits.items;
  within : l.visited ≤ node_count l.self.game.now.tree;
  ticks : l.steps ≤ l.fn.steps + l.visited;
  grows : l.fn.steps ≤ l.steps;
  nodes : AreVisitedTo l.self.query.now l.self.number l.self.game.now.tree (occurrences_of l.begun) l.one-index l.visited l.fn.hits.items l.hits.items l.fn.steps l.steps;
}
