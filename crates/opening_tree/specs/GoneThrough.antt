-- What is known of the positions at the nodes of a game while openings grow by its entries and next
-- moves.
use Rattle.std.specs.Prelude.{◌≡◌, ℕ, ◌+◌, ◌<◌, ◌≤◌, List, ◌++◌, Some, length, slice_index_or}
use Rattle.kb_geometry.specs.declared.shape.Shape.{Shape}
use Rattle.kb_geometry.specs.Board.{point_count}
use Rattle.kb_geometry.specs.Capture.{Position}
use Rattle.game_tree.specs.Result.{outcome_of}
use Rattle.game_tree.specs.Tree as tree
use Rattle.capture_board.specs.Deltas as deltas
use Rattle.node_position.specs.Games.{AreNodeChanges}
use Rattle.opening_tree.specs.declared.groups.EntryAt.{EntryAt}
use Rattle.opening_tree.specs.declared.openings_of_games.Frame.{Frame}
use Rattle.opening_tree.specs.Canonical.{IsCanonicalPosition}
use Rattle.opening_tree.specs.Entries.{AreEntriesTo, Entry, position_in}
use Rattle.opening_tree.specs.GameFrames.{IsPastFrom}
use Rattle.opening_tree.specs.Groups.{AreFollowing}
use Rattle.opening_tree.specs.Least.{AreBringing}
use Rattle.opening_tree.specs.NextMoves.{AreNextsTo, NextAt}
use Rattle.opening_tree.specs.Packing.{cells_of}
use Rattle.opening_tree.specs.StoredGames.{AreStored}
use Rattle.opening_tree.specs.StoredGroups.{IsKeyAt, Stored}
use Rattle.opening_tree.specs.Turned.{StandsTurned, TurnedWalk}

-- The frame tells the opening of a position, by its canonical position, and the symmetries that bring
-- to that.
pub record IsFrameOf (shape : Shape) (position : Position) (stored : List Stored)
    (frame : Frame) : Type 0 where
  pub words : List ℕ
  pub is_key : IsKeyAt stored frame.opening words
  pub is_canonical : IsCanonicalPosition shape position (cells_of (point_count shape) words)
  pub are_bringing : AreBringing shape position (cells_of (point_count shape) words)
      frame.symmetries

-- The frames at the first so many nodes. Nodes whose move number is greater than the depth may have
-- any.
pub record AreFramesTo (depth : ℕ) (game : tree.Tree) (positions : List Position) (end : ℕ)
    (stored : List Stored) (frames : List Frame) : Type 0 where
  pub each_node : length frames ≡ end
  pub each : (n : ℕ) (default : Frame) →
      n < end →
      tree.move_number_of game n ≤ depth →
      IsFrameOf game.shape (position_in positions n) stored (slice_index_or frames n default)

-- openings of some entries and next moves, to which a game's can be added
pub record IsReadyForGame (shape : Shape) (es : List Entry) (ns : List NextAt)
    (stored : List Stored) : Type 0 where
  pub so_far : AreStored shape es ns stored
  pub following : AreFollowing es ns
  pub entries_fit : length es + 65536 ≤ 18446744073709551614
  pub nexts_fit : length ns + 65536 ≤ 18446744073709551614

-- The walk stands at a node of a game with these changes, which may be an entry.
pub record StandsAtEntry (game : tree.Tree) (changes : deltas.Deltas) (walk : TurnedWalk)
    (entry : EntryAt) : Type 0 where
  pub is_tree : tree.IsTree game
  pub are_changes : AreNodeChanges game changes
  pub stands : StandsTurned changes walk
  pub here : walk.here ≡ Some entry.node
  pub outcome : entry.outcome ≡ outcome_of game.info.outcome_text

-- The openings have grown by the entries of the first so many nodes, and the frames at them are
-- known.
pub record IsGoneTo (depth number : ℕ) (game : tree.Tree) (positions : List Position) (end : ℕ)
    (es : List Entry) (ns : List NextAt) (stored : List Stored) (frames : List Frame) : Type 0 where
  pub more : List Entry
  pub are_entries : AreEntriesTo depth number game positions end more
  pub are_stored : AreStored game.shape (es ++ more) ns stored
  pub are_frames : AreFramesTo depth game positions end stored frames
  pub following : AreFollowing es ns
  pub entries_fit : length es + 65536 ≤ 18446744073709551614
  pub nexts_fit : length ns + 65536 ≤ 18446744073709551614

-- The openings have grown by the next moves of the first so many nodes too.
pub record AreNextsGone (depth : ℕ) (game : tree.Tree) (positions : List Position) (end : ℕ)
    (es : List Entry) (ns : List NextAt) (stored : List Stored) (frames : List Frame) : Type 0 where
  pub more : List NextAt
  pub are_nexts : AreNextsTo depth game positions end more
  pub are_stored : AreStored game.shape es (ns ++ more) stored
  pub are_frames : AreFramesTo depth game positions (length frames) stored frames
  pub past : IsPastFrom depth game (length frames)
  pub entries_fit : length es ≤ 18446744073709551614
  pub nexts_fit : length ns + 65536 ≤ 18446744073709551614
