-- Games of 200 moves on a board of 19 by 19, whose points come from a number.
use Rattle.std.specs.Prelude.{ℕ, ◌+◌, ◌*◌, ◌/◌, ◌%◌, ◌==◌, suc, zero, List, map, codes, Some, if◌then◌else◌}
use Rattle.std.proofs.Common.{refl}
use Rattle.std.proofs.lemmas.Bool.{leb-true}
use Rattle.std.specs.List.{range_with_len}
use Rattle.kb_geometry.specs.Side.{IsSide}
use Rattle.kb_geometry.specs.declared.shape.Point.{Point}
use Rattle.kb_geometry.specs.declared.shape.Shape.{Shape}
use Rattle.kb_geometry.specs.declared.stone.Colour.{Colour}
use Rattle.kb_geometry.specs.declared.stone.Colour.TheVariants as colour
use Rattle.game_tree.specs.declared.node.Move.{Move}
use Rattle.game_tree.specs.Line.{line_tree, told_result}
use Rattle.game_tree.specs.Tree.{Tree}

-- the number that comes behind another
abbrev pub next_number : ℕ → ℕ
next_number s = (1103515245 * s + 12345) % 2147483648

-- the number with which a game begins, where the first game begins with `start`
abbrev pub first_number : ℕ → ℕ → ℕ
first_number start game = (start + game) % 2147483648

-- the number behind so many moves of the game that begins with this number
abbrev pub number_after : ℕ → ℕ → ℕ
number_after first zero = first
number_after first (suc moves) = next_number (number_after first moves)

-- the point of a number, by its place among the points of the board, row by row
abbrev pub point_of : ℕ → Point
point_of s = let place = (s / 1024) % 361 in record { x = place % 19; y = place / 19 }

-- who plays a move: black the first, then by turns
abbrev pub mover : ℕ → Colour
mover turn = if turn % 2 == 0 then colour.Black else colour.White

-- a move, from 0, of the game that begins with this number
abbrev pub made_move : ℕ → ℕ → Move
made_move first turn = record {
  colour = mover turn;
  point = Some (point_of (next_number (number_after first turn)));
}

-- the first moves of the game that begins with this number, so many
abbrev pub made_moves : ℕ → ℕ → List Move
made_moves first count = map (made_move first) (range_with_len 0 count)

-- the result of a game: black wins the games of even numbers, white the others
abbrev pub result_text : ℕ → List ℕ
result_text game = if game % 2 == 0 then codes "B+R" else codes "W+R"

-- a board may have 19 columns or rows
abbrev side_of_19 : IsSide 19
side_of_19 = (leb-true 1 19 refl, leb-true 19 52 refl)

-- the board of all these games
abbrev pub standard_shape : Shape
standard_shape = record {
  cols = 19;
  rows = 19;
  in_range = (side_of_19, side_of_19);
}

-- the game with this number, where the first game begins with `start`
abbrev pub made_tree : ℕ → ℕ → Tree
made_tree start game = line_tree standard_shape (told_result (result_text game))
    (made_moves (first_number start game) 200)
