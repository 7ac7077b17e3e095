-- The openings of the games so far, by the words of their canonical positions.
use Rattle.std.specs.Prelude.{◌≡◌, ℕ, ◌*◌, ◌≤◌, List, All, IfSome, length}
use Rattle.kb_geometry.specs.declared.shape.Point.{Point}
use Rattle.kb_geometry.specs.declared.shape.Shape.{Shape}
use Rattle.kb_geometry.specs.Board.{IsOnBoard, point_count}
use Rattle.node_position.specs.Games.{Game}
use Rattle.opening_tree.specs.Entries.{Entry}
use Rattle.opening_tree.specs.Games.{AreOfGames}
use Rattle.opening_tree.specs.Groups.{AreFollowing, groups_of}
use Rattle.opening_tree.specs.NextMoves.{NextAt}
use Rattle.opening_tree.specs.StoredGroups.{AreKeys, Stored, groups_shown}

-- these are the openings of these entries and next moves
pub record AreStored (shape : Shape) (es : List Entry) (ns : List NextAt)
    (stored : List Stored) : Type 0 where
  pub keys : AreKeys (point_count shape) stored
  pub groups : groups_shown (point_count shape) stored ≡ groups_of shape es ns

-- the canonical positions of entries have so many points
abbrev pub AreEntriesOn : ℕ → List Entry → Type 0
AreEntriesOn points entries = All (λ (e : Entry). length e.canonical ≡ points) entries

-- those of next moves too, and what was played lies on the board
pub record AreNextsOn (shape : Shape) (nexts : List NextAt) : Type 0 where
  pub positions : All (λ (n : NextAt). length n.canonical ≡ point_count shape) nexts
  pub points : All (λ (n : NextAt). IfSome n.played.point (λ (p : Point). IsOnBoard shape p)) nexts

-- These are the openings of these games, which are numbered from a first number on.
pub record AreOpeningsOf (first : ℕ) (shape : Shape) (depth : ℕ) (games : List Game)
    (stored : List Stored) : Type 0 where
  pub entries : List Entry
  pub nexts : List NextAt
  pub are_all : AreOfGames first shape depth games entries nexts
  pub so_far : AreStored shape entries nexts stored
  pub following : AreFollowing entries nexts
  pub entries_fit : length entries ≤ 65536 * length games
  pub nexts_fit : length nexts ≤ 65536 * length games
