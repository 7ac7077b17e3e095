-- Signatures of games, after Dyer: the points of six moves of the main line, two bytes each.
use Rattle.std.specs.Prelude.{◌≡◌, ℕ, ◌+◌, ◌*◌, ◌<◌, List, [], ◌∷◌, length, slice_index, Option, Some, None, IfSome}
use Rattle.kb_geometry.specs.declared.shape.Shape.{Shape}
use Rattle.kb_geometry.specs.declared.shape.Point.{Point}
use Rattle.kb_geometry.specs.declared.stone.Colour.{Colour}
use Rattle.kb_geometry.specs.Board.{IsOnBoard}
use Rattle.game_tree.specs.declared.node.Move.{Move}
use Rattle.game_tree.specs.MainLine.{IsOnMainLine}
use Rattle.game_tree.specs.Tree.{Tree, move_number_of, node_at}
use Rattle.game_tree.specs.Value.{IsCoordinate}

-- the numbers of the six moves, in the order of a signature
abbrev pub move_numbers : List ℕ
move_numbers = 20 ∷ 40 ∷ 60 ∷ 31 ∷ 51 ∷ 71 ∷ []

-- the byte `?`
abbrev pub question_mark : ℕ
question_mark = 63

-- The main line's move with a number is played at the node. Moves and passes are counted from 1.
pub record IsMainMove (tree : Tree) (number node : ℕ) (move : Move) : Type 0 where
  pub on_main_line : IsOnMainLine tree node
  pub played : (node_at tree node).played ≡ Some move
  pub numbered : move_number_of tree node ≡ number

-- the point of the main line's move with a number; none where that move is a pass or is missing
pub data IsPointOfMove (tree : Tree) (number : ℕ) : Option Point → Type 0 where
  played : {point : Option Point} (node : ℕ) (colour : Colour) →
      IsMainMove tree number node (record { colour = colour; point = point }) →
      IsPointOfMove tree number point
  missing : ((node : ℕ) (move : Move) → ¬ IsMainMove tree number node move) →
      IsPointOfMove tree number None

-- how two bytes tell a point: by its SGF letters, first the column; `??` where there is none
abbrev pub IsPair : Option Point → ℕ → ℕ → Type 0
IsPair None first second = (first ≡ question_mark) × (second ≡ question_mark)
IsPair (Some p) first second = IsCoordinate first p.x × IsCoordinate second p.y

-- The two bytes at a place of a signature tell a point, or that there is none. The six places are
-- 0 to 5.
abbrev pub TellsAt : List ℕ → ℕ → Option Point → Type 0
TellsAt bytes place point =
    IsPair point (slice_index bytes (2 * place)) (slice_index bytes (2 * place + 1))

-- The signature of a game: the points of moves 20, 40, 60, 31, 51 and 71 of its main line, two
-- bytes each.
pub record IsSignatureOf (tree : Tree) (bytes : List ℕ) : Type 0 where
  pub twelve : length bytes ≡ 12
  pub each : (place : ℕ) →
      place < 6 →
      (point : Option Point)
      × IsPointOfMove tree (slice_index move_numbers place) point
      × TellsAt bytes place point

-- a signature on a board: each of its six points lies on the board, or isn't there
pub record IsSignatureOn (shape : Shape) (bytes : List ℕ) : Type 0 where
  pub twelve : length bytes ≡ 12
  pub each : (place : ℕ) →
      place < 6 →
      (point : Option Point)
      × TellsAt bytes place point
      × IfSome point (λ (p : Point). IsOnBoard shape p)
