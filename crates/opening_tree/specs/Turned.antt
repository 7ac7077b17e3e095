-- The images of a position, packed in one list of words, and a walk over the nodes of a game that
-- keeps them.
use Rattle.std.specs.Prelude.{◌≡◌, ℕ, ◌*◌, ◌<◌, List, Option, length, map, take, drop, IfSome}
use Rattle.std.specs.List.{range_with_len}
use Rattle.kb_geometry.specs.declared.shape.Shape.{Shape}
use Rattle.kb_geometry.specs.Board.{point_count}
use Rattle.kb_geometry.specs.Capture.{Position}
use Rattle.capture_board.specs.Deltas.{Deltas, node_count, position_where}
use Rattle.opening_tree.specs.Frames.{AreImages, symmetries_of}
use Rattle.opening_tree.specs.Packing.{AreCells, cells_of, words_for}

-- the words of the image with a number, where each has so many
abbrev pub words_at : ℕ → ℕ → List ℕ → List ℕ
words_at room number words = take room (drop (room * number) words)

-- the images
unfoldable pub turned_shown : Shape → List ℕ → List Position
turned_shown shape words =
    map (λ number. cells_of (point_count shape)
    (words_at (words_for (point_count shape)) number words)) (range_with_len 0 (symmetries_of shape))

-- Words that hold an image for each symmetry of a board, and nothing else.
pub record AreTurned (shape : Shape) (words : List ℕ) : Type 0 where
  pub room : length words ≡ words_for (point_count shape) * symmetries_of shape
  pub each : (number : ℕ) →
      number < symmetries_of shape →
      AreCells (point_count shape) (words_at (words_for (point_count shape)) number words)

-- a board and the images of a position on it
pub record TurnedState : Type 0 where
  pub shape : Shape
  pub images : List Position

-- a walk: its board, the node where it stands, none above the root, and the images that it keeps
pub record TurnedWalk : Type 0 where
  pub shape : Shape
  pub here : Option ℕ
  pub images : List Position

-- The walk stands at a node of these changes, or above their root, and keeps the images of the
-- position there.
pub record StandsTurned (deltas : Deltas) (walk : TurnedWalk) : Type 0 where
  pub same_shape : walk.shape ≡ deltas.shape
  pub in_range : IfSome walk.here (λ n. n < node_count deltas)
  pub are_images : AreImages walk.shape (position_where deltas walk.here) walk.images
