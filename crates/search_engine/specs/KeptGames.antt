-- The games that are kept for a query, how many they are, and how many nodes they have.
use Rattle.std.specs.Prelude.{ℕ, ◌+◌, ◌<◌, ◌↔◌, List, [], ◌∷◌, ◌++◌, AllPairs, Contains}
use Rattle.game_tree.specs.Tree.{Tree, node_count}
use Rattle.capture_board.specs.Deltas.{Deltas}
use Rattle.node_position.specs.Games.{AreNodeChanges, Game}
use Rattle.pattern_images.specs.declared.query.Query.{Query}
use Rattle.pattern_images.specs.Placements.{ArePlacements, Placement}
use Rattle.candidate_sieve.specs.Kept.{IsKept}
use Rattle.search_engine.specs.Numbered.{IsNumbered}

-- The game of this tree is kept for the query: by some placement of the query on its board.
pub record IsKeptGame (query : Query) (tree : Tree) : Type 0 where
  pub changes : Deltas
  pub are_changes : AreNodeChanges tree changes
  pub placements : List Placement
  pub are_placements : ArePlacements query tree.shape placements
  pub kept : IsKept changes placements

-- so many of the games are kept for the query
pub data AreKept (query : Query) : List Game → ℕ → Type 0 where
  nothing : AreKept query [] 0
  kept : {games : List Game} {k : ℕ} (game : Game) → AreKept query games k →
      IsKeptGame query game.tree → AreKept query (games ++ game ∷ []) (k + 1)
  left_out : {games : List Game} {k : ℕ} (game : Game) → AreKept query games k →
      ¬ IsKeptGame query game.tree → AreKept query (games ++ game ∷ []) k

-- the games that are kept for the query have so many nodes
pub data HaveKeptNodes (query : Query) : List Game → ℕ → Type 0 where
  nothing : HaveKeptNodes query [] 0
  kept : {games : List Game} {n : ℕ} (game : Game) → HaveKeptNodes query games n →
      IsKeptGame query game.tree →
      HaveKeptNodes query (games ++ game ∷ []) (n + node_count game.tree)
  left_out : {games : List Game} {n : ℕ} (game : Game) → HaveKeptNodes query games n →
      ¬ IsKeptGame query game.tree → HaveKeptNodes query (games ++ game ∷ []) n

-- these are exactly the numbers of the games that are kept for the query, ascending
pub record AreNumbersOfKept (query : Query) (games : List Game) (numbers : List ℕ) : Type 0 where
  pub exactly : (n : ℕ) → Contains numbers n
      ↔ ((game : Game) × IsNumbered games n game × IsKeptGame query game.tree)
  pub ascending : AllPairs (λ a b. a < b) numbers
