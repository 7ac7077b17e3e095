-- The hits of a query as a set of triples of a game, a node and a placement: which triples are
-- hits, in what order they stand, and what a hit tells.
use Rattle.std.specs.Prelude.{◌≡◌, ℕ, ◌<◌, ◌⊎◌, ◌↔◌, IfSome, List, [], length, slice_index_or, AllPairs, Contains}
use Rattle.kb_geometry.specs.declared.shape.Shape.{Shape}
use Rattle.kb_geometry.specs.Capture.{Position}
use Rattle.game_tree.specs.Position.{ArePositions}
use Rattle.game_tree.specs.Result.{outcome_of}
use Rattle.game_tree.specs.Tree.{Tree, move_number_of, node_count, parent_of}
use Rattle.capture_board.specs.Deltas.{Deltas}
use Rattle.pattern_images.specs.declared.hit.Hit.{Hit}
use Rattle.pattern_images.specs.declared.query.Query.{Query}
use Rattle.pattern_images.specs.Holds.{Holds}
use Rattle.pattern_images.specs.ImageList.{IsPlaceOf}
use Rattle.pattern_images.specs.Placements.{ArePlacements, IsBefore, Placement}
use Rattle.info_filter.specs.declared.filter.Filter.{Filter}
use Rattle.node_position.specs.Games.{AreNodeChanges, Game}
use Rattle.search_engine.specs.Hits.{AsksFor, GoesOn, LooksAt}
use Rattle.search_engine.specs.Numbered.{IsNumbered}

-- a game by its number, a node of it by its number, and a placement on its board
pub record Triple : Type 0 where
  pub game : ℕ
  pub node : ℕ
  pub placement : Placement

-- the placement is one of the query's on a board of this shape
pub record IsPlacementOf (query : Query) (shape : Shape) (placement : Placement) : Type 0 where
  pub placements : List Placement
  pub are_placements : ArePlacements query shape placements
  pub is_one : Contains placements placement

-- The placement begins to hold at the node: it holds in the position there, and not in the one at
-- the node's parent, if the node has one.
pub record BeginsToHold (tree : Tree) (n : ℕ) (placement : Placement) : Type 0 where
  pub positions : List Position
  pub are_positions : ArePositions tree positions
  pub holds_there : Holds tree.shape (slice_index_or positions n []) placement
  pub not_before : IfSome (parent_of tree n)
      (λ m. ¬ Holds tree.shape (slice_index_or positions m []) placement)

-- A search finds the placement at the node of this tree: the query is for its board and the filter
-- accepts it, the query looks at the node, and the placement, one of the query's on the board,
-- begins to hold there.
pub record IsFoundIn (query : Query) (filter : Filter) (tree : Tree) (n : ℕ)
    (placement : Placement) : Type 0 where
  pub asked : AsksFor query filter tree
  pub node_there : n < node_count tree
  pub looks : LooksAt query tree n
  pub placed : IsPlacementOf query tree.shape placement
  pub begins : BeginsToHold tree n placement

-- a search over these games finds the triple's placement at its node of its game
abbrev pub IsFound : Query → Filter → List Game → Triple → Type 0
IsFound query filter games t = (game : Game) × IsNumbered games t.game game
    × IsFoundIn query filter game.tree t.node t.placement

-- the order of triples: by game, in a game by node, and at a node in the order of placements
abbrev pub IsTripleBefore : Triple → Triple → Type 0
IsTripleBefore a b = (a.game < b.game) ⊎ ((a.game ≡ b.game)
    × ((a.node < b.node) ⊎ ((a.node ≡ b.node) × IsBefore a.placement b.placement)))

-- What a hit tells of a triple in the game of this tree: its game, its node and the place of its
-- placement, the node's move number, the game's result, and how the game goes on from there.
pub record TellsOf (tree : Tree) (t : Triple) (hit : Hit) : Type 0 where
  pub game : hit.game ≡ t.game
  pub node : hit.node ≡ t.node
  pub place : IsPlaceOf t.placement hit.place
  pub moves : hit.moves ≡ move_number_of tree t.node
  pub outcome : hit.outcome ≡ outcome_of tree.info.outcome_text
  pub changes : Deltas
  pub are_changes : AreNodeChanges tree changes
  pub next : GoesOn tree changes t.placement t.node hit.next

-- the hit tells of the triple in one of these games
abbrev pub IsHitOfTriple : List Game → Triple → Hit → Type 0
IsHitOfTriple games t hit =
    (game : Game) × IsNumbered games t.game game × TellsOf game.tree t hit

-- the hits tell of the triples, one for one and in order
pub record AreHitsOfTriples (games : List Game) (triples : List Triple)
    (hits : List Hit) : Type 0 where
  pub same_length : length hits ≡ length triples
  pub each : (k : ℕ) (t : Triple) (h : Hit) → k < length triples →
      IsHitOfTriple games (slice_index_or triples k t) (slice_index_or hits k h)

-- The hits are those of exactly the triples that a search over these games finds, each once: they
-- stand in strict order.
pub record AreHitsOfAllTriples (query : Query) (filter : Filter) (games : List Game)
    (hits : List Hit) : Type 0 where
  pub triples : List Triple
  pub exactly : (t : Triple) → Contains triples t ↔ IsFound query filter games t
  pub ordered : AllPairs IsTripleBefore triples
  pub of_triples : AreHitsOfTriples games triples hits
