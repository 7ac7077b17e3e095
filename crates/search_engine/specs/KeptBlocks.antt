-- The kept games of a block: definitions of the private functions that count them.
use Rattle.std.specs.Prelude.{◌≡◌, ◌↔◌, ◌⊎◌, ℕ, ◌^◌, ◌<◌, ◌≤◌, Contains, List, Some, length}
use Rattle.std.specs.Borrow.{Bor}
use Rattle.std.specs.Int.{bit_at}
use Rattle.std.specs.List.{slice_get}
use Rattle.kb_geometry.specs.declared.shape.Shape.{Shape}
use Rattle.game_tree.specs.Tree.{IsTree, Tree}
use Rattle.capture_board.specs.Deltas.{Deltas}
use Rattle.node_position.specs.Games.{AreNodeChanges, Game}
use Rattle.pattern_images.specs.declared.query.Query.{Query}
use Rattle.pattern_images.specs.Placements.{ArePlacements, Placement}
use Rattle.final_index.specs.Planes.{PlaneGames}
use Rattle.candidate_sieve.specs.KeptWords.{AreKeptOf}
use Rattle.segment_store.specs.Finished.{AreCornersOfTree}
use Rattle.search_engine.specs.KeptGames.{IsKeptGame}
use Rattle.search_engine.specs.Searching.{IsCovered}

-- These are the numbers of the corners of a tree, which has changes.
pub record AreCornersTold (tree : Tree) (keys : List (List ℕ)) : Type 0 where
  pub is_tree : IsTree tree
  pub changes : Deltas
  pub are_changes : AreNodeChanges tree changes
  pub corners : AreCornersOfTree tree keys

-- These are the numbers of the corners of each game of a block, which has at most 64 games.
pub record AreCornersOf (games : List Game) (corners : List (Bor (List (List ℕ)))) : Type 0 where
  pub most : length games ≤ 64
  pub count : length corners ≡ length games
  pub each : (g : ℕ) (game : Game) → slice_get games g ≡ Some game →
      (keys : Bor (List (List ℕ))) × (slice_get corners g ≡ Some keys)
      × AreCornersTold game.tree keys.now

-- of the games on boards of the shape of some planes those that are kept have their bits, and none
-- where the query isn't looked for on such boards
abbrev pub AreKeptOn : Query → List Shape → PlaneGames → List (Bor (List (List ℕ))) → ℕ → Type 0
AreKeptOn query shapes planes corners word =
    ((¬ Contains shapes planes.shape) × (word ≡ 0)) ⊎ ((placements : List Placement)
    × ArePlacements query planes.shape placements × AreKeptOf planes placements corners word)

-- Of the games of a block those that are kept have their bits, if the query is looked for on boards of
-- their shapes, and there are no others.
pub record AreKeptInBlock (query : Query) (shapes : List Shape) (games : List Game)
    (word : ℕ) : Type 0 where
  pub small : word < 2 ^ 64
  pub most : length games ≤ 64
  pub exact : (g : ℕ) (game : Game) → slice_get games g ≡ Some game →
      IsCovered query shapes game.tree.shape → (bit_at word g ≡ 1) ↔ IsKeptGame query game.tree
  pub no_others : (g : ℕ) → length games ≤ g → g < 64 → bit_at word g ≡ 0
