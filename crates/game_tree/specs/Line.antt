-- Games of one line of moves.
use Rattle.std.specs.Prelude.{ℕ, ◌+◌, suc, zero, List, [], length, map, slice_get, Some, None}
use Rattle.std.specs.List.{range_with_len}
use Rattle.kb_geometry.specs.declared.shape.Shape.{Shape}
use Rattle.game_tree.specs.declared.node.Move.{Move}
use Rattle.game_tree.specs.Information.{Information, no_information}
use Rattle.game_tree.specs.Tree.{Node, Tree}

-- a node of such a game: the root sets up nothing and plays nothing, and each other node stands
-- below the one before it and plays the next of these moves
abbrev pub line_node : List Move → ℕ → Node
line_node moves zero = record { parent = None; setups = []; played = None }
line_node moves (suc above) = record {
  parent = Some above;
  setups = [];
  played = slice_get moves above;
}

-- a game of which the result alone is told
abbrev pub told_result : List ℕ → Information
told_result text = record no_information { outcome_text = text }

-- a game of these moves, one below the other
abbrev pub line_tree : Shape → Information → List Move → Tree
line_tree shape info moves = record {
  shape = shape;
  info = info;
  nodes = map (line_node moves) (range_with_len 0 (length moves + 1));
}
