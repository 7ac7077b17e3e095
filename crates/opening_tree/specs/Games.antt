-- The entries and the next moves of a list of games.
use Rattle.std.specs.Prelude.{◌≡◌, ◌≢◌, ℕ, ◌+◌, List, [], ◌∷◌, ◌++◌, length}
use Rattle.kb_geometry.specs.declared.shape.Shape.{Shape}
use Rattle.kb_geometry.specs.Capture.{Position}
use Rattle.game_tree.specs.Position.{ArePositions}
use Rattle.game_tree.specs.Tree.{Tree, node_count}
use Rattle.node_position.specs.Games.{Game}
use Rattle.opening_tree.specs.Entries.{AreEntriesTo, Entry}
use Rattle.opening_tree.specs.NextMoves.{AreNextsTo, NextAt}

-- The entries and the next moves of the game with this number: those of all its nodes.
pub record AreOfGame (depth number : ℕ) (tree : Tree) (entries : List Entry)
    (nexts : List NextAt) : Type 0 where
  pub positions : List Position
  pub are_positions : ArePositions tree positions
  pub are_entries : AreEntriesTo depth number tree positions (node_count tree) entries
  pub are_nexts : AreNextsTo depth tree positions (node_count tree) nexts

-- the same on boards of one shape: a game on another board has none
pub data AreOnBoard (shape : Shape) (depth number : ℕ)
    (tree : Tree) : List Entry → List NextAt → Type 0 where
  on_board : {entries : List Entry} {nexts : List NextAt} → tree.shape ≡ shape →
      AreOfGame depth number tree entries nexts →
      AreOnBoard shape depth number tree entries nexts
  elsewhere : tree.shape ≢ shape → AreOnBoard shape depth number tree [] []

-- The entries and the next moves of games, which are numbered from a first number on, in order of
-- the games.
pub data AreOfGames (first : ℕ) (shape : Shape)
    (depth : ℕ) : List Game → List Entry → List NextAt → Type 0 where
  nothing : AreOfGames first shape depth [] [] []
  one_more : {games : List Game} {entries : List Entry} {nexts : List NextAt} (game : Game)
      (more_entries : List Entry) (more_nexts : List NextAt) →
      AreOfGames first shape depth games entries nexts →
      AreOnBoard shape depth (first + length games) game.tree more_entries more_nexts →
      AreOfGames first shape depth (games ++ game ∷ []) (entries ++ more_entries)
      (nexts ++ more_nexts)
