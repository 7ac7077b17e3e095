-- How many steps a search takes: definitions of the private functions that search.
use Rattle.std.specs.Prelude.{◌≡◌, ℕ, ◌+◌, ◌≤◌, List, ◌++◌}
use Rattle.node_position.specs.Games.{Game}
use Rattle.pattern_images.specs.declared.hit.Hit.{Hit}
use Rattle.pattern_images.specs.declared.query.Query.{Query}
use Rattle.search_engine.specs.HitNodes.{hit_nodes}
use Rattle.search_engine.specs.KeptGames.{HaveKeptNodes}
use Rattle.segment_store.specs.Nodes.{nodes_of}

-- The count of steps only grows: by at most the number of all nodes of these games, and by at most
-- the number of all nodes of the kept ones among them.
pub record AreStepsIn (query : Query) (games : List Game) (old new : ℕ) : Type 0 where
  pub grows : old ≤ new
  pub most : new ≤ old + nodes_of games
  pub of_kept : (n : ℕ) → HaveKeptNodes query games n → new ≤ old + n

-- Hits are added, and the count of steps grows by at least the number of the nodes at which they
-- stand.
pub record AreVisited (old new : List Hit) (before now : ℕ) : Type 0 where
  pub more : List Hit
  pub added : new ≡ old ++ more
  pub visited : before + hit_nodes more ≤ now
