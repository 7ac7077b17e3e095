-- What the private functions that go through a game tell of its nodes.
use Rattle.std.specs.Prelude.{◌≡◌, ◌≢◌, ℕ, ◌<◌, ◌≤◌, List, [], IfSome, Some}
use Rattle.kb_geometry.specs.Capture.{Position}
use Rattle.game_tree.specs.declared.node.Move.{Move}
use Rattle.game_tree.specs.Result.{outcome_of}
use Rattle.game_tree.specs.Tree as tree
use Rattle.capture_board.specs.Deltas as deltas
use Rattle.opening_tree.specs.Canonical.{IsCanonicalPosition}
use Rattle.opening_tree.specs.Entries.{position_in}
use Rattle.opening_tree.specs.NextMoves.{IsMoveInFrame, IsNextAt, NextAt}

-- A node comes behind all nodes down to a depth on the line to it: the move number of its parent is
-- greater.
pub record IsPastAt (depth : ℕ) (game : tree.Tree) (n : ℕ) : Type 0 where
  pub parent : ℕ
  pub is_parent : tree.parent_of game n ≡ Some parent
  pub is_past : depth < tree.move_number_of game parent

-- All nodes from some node on are past a depth. None of them is an entry, and none plays a next move.
pub record IsPastFrom (depth : ℕ) (game : tree.Tree) (end : ℕ) : Type 0 where
  pub in_game : end ≤ tree.node_count game
  pub each : (n : ℕ) → end ≤ n → n < tree.node_count game → IsPastAt depth game n

-- a node within the depth that is the root or changes something
abbrev pub IsChangedWithin : ℕ → tree.Tree → deltas.Deltas → ℕ → Type 0
IsChangedWithin depth game changes n =
    (tree.move_number_of game n ≤ depth)
    × IfSome (deltas.parent_of changes n) (λ m. deltas.changes_of changes n ≢ [])

-- the next move at a node, from these positions
pub record IsNextOf (depth : ℕ) (game : tree.Tree) (positions : List Position) (n : ℕ)
    (next : NextAt) : Type 0 where
  pub parent : ℕ
  pub played : Move
  pub is_next : IsNextAt depth game n parent played
  pub is_canonical : IsCanonicalPosition game.shape (position_in positions parent) next.canonical
  pub in_frame : IsMoveInFrame game.shape (position_in positions parent) next.canonical played
      next.played
  pub outcome : next.outcome ≡ outcome_of game.info.outcome_text
