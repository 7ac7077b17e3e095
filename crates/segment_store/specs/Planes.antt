-- The planes of a block.
use Rattle.std.specs.Prelude.{◌≡◌, ◌≢◌, ◌<◌, ◌++◌, ◌∷◌, [], ℕ, List, Option, None, Some, All, length, map, slice_index_or}
use Rattle.std.specs.List.{AllPairs}
use Rattle.kb_geometry.specs.declared.shape.Shape.{Shape}
use Rattle.game_tree.specs.Tree.{Tree}
use Rattle.node_position.specs.Games.{Game}
use Rattle.final_index.specs.declared.ever_sets.EverSets.{EverSets}
use Rattle.final_index.specs.Planes.{PlaneGames}
use Rattle.segment_store.specs.BoardShapes.{HaveShapes}
use Rattle.segment_store.specs.Finished.{AreSetsOfTree}

-- what planes for boards of a shape have for a game: its sets, if its board has the shape
abbrev pub IsGameOfPlanes : Shape → Tree → Option EverSets → Type 0
IsGameOfPlanes shape tree (Some sets) = (tree.shape ≡ shape) × AreSetsOfTree tree sets
IsGameOfPlanes shape tree None = tree.shape ≢ shape

-- the games of the planes are these
abbrev pub ArePlanesOn : List Game → PlaneGames → Type 0
ArePlanesOn games planes = (length planes.games ≡ length games)
    × ((g : ℕ) (d : Game) → g < length games →
    IsGameOfPlanes planes.shape (slice_index_or games g d).tree
    (slice_index_or planes.games g None))

-- The planes of a block: one for each shape of its games' boards. In each, every game of the block
-- has its place: with its sets, if its board has the shape.
pub record ArePlanesOf (games : List Game) (planes : List PlaneGames) : Type 0 where
  pub shapes : HaveShapes games (map (λ p. p.shape) planes)
  pub each : All (ArePlanesOn games) planes
  pub different : AllPairs (λ p q. p.shape ≢ q.shape) planes

-- the planes of games on boards of one shape; for private functions
abbrev pub ArePlanesFor : Shape → List Game → PlaneGames → Type 0
ArePlanesFor shape games planes = (planes.shape ≡ shape) × ArePlanesOn games planes

-- one of the planes for each of the shapes, in their order; for private functions
pub record AreMadeFor (shapes : List Shape) (games : List Game)
    (planes : List PlaneGames) : Type 0 where
  pub in_order : map (λ p. p.shape) planes ≡ shapes
  pub each : All (ArePlanesOn games) planes

-- the planes have one game more, with what they have for it; for private functions
pub record IsGameAdded (tree : Tree) (old new : PlaneGames) : Type 0 where
  pub shape : new.shape ≡ old.shape
  pub added : Option EverSets
  pub games : new.games ≡ old.games ++ added ∷ []
  pub told : IsGameOfPlanes old.shape tree added
