-- The next moves of a game: what was played from its positions, in the frame of the canonical
-- position.
use Prim.Native.Nat.{zero}
use Rattle.std.specs.Prelude.{◌≡◌, ℕ, suc, ◌≤◌, List, [], ◌∷◌, ◌++◌, Option, Some, None}
use Rattle.kb_geometry.specs.declared.shape.Shape.{Shape}
use Rattle.kb_geometry.specs.declared.shape.Point.{Point}
use Rattle.kb_geometry.specs.declared.stone.Outcome.{Outcome}
use Rattle.kb_geometry.specs.Board.{number_of}
use Rattle.kb_geometry.specs.Capture.{Position}
use Rattle.kb_geometry.specs.Symmetry.{moved}
use Rattle.game_tree.specs.declared.node.Move.{Move}
use Rattle.game_tree.specs.Result.{outcome_of}
use Rattle.game_tree.specs.Tree.{Tree, move_number_of, node_at, parent_of}
use Rattle.opening_tree.specs.Canonical.{Brings, IsCanonicalPosition}
use Rattle.opening_tree.specs.Entries.{position_in}

-- a next move: the canonical position of the position from which it was played, the move in the
-- frame of that position, and how the game ended
pub record NextAt : Type 0 where
  pub canonical : Position
  pub played : Move
  pub outcome : Outcome

-- A point of a position in the frame of its canonical position: of the images of the point, under
-- all symmetries that bring the position to the canonical one, the one of least number.
pub record IsPointInFrame (shape : Shape) (position canonical : Position)
    (point in_frame : Point) : Type 0 where
  pub number : ℕ
  pub brings : Brings shape number position canonical
  pub is_moved : in_frame ≡ moved number shape point
  pub is_least : (other : ℕ) →
      Brings shape other position canonical →
      number_of shape in_frame ≤ number_of shape (moved other shape point)

-- the same for a move's point; a pass stays one
abbrev pub IsPlaceInFrame : Shape → Position → Position → Option Point → Option Point → Type 0
IsPlaceInFrame shape position canonical None in_frame = in_frame ≡ None
IsPlaceInFrame shape position canonical (Some point) in_frame = (framed : Point)
    × (in_frame ≡ Some framed) × IsPointInFrame shape position canonical point framed

-- A move in the frame of the canonical position: its colour stays.
pub record IsMoveInFrame (shape : Shape) (position canonical : Position)
    (played in_frame : Move) : Type 0 where
  pub same_colour : in_frame.colour ≡ played.colour
  pub place : IsPlaceInFrame shape position canonical played.point in_frame.point

-- A node plays a move, or a pass, from its parent, whose move number is at most the depth. Whether
-- the parent is an entry, and how deep the node itself is, isn't asked.
pub record IsNextAt (depth : ℕ) (tree : Tree) (n parent : ℕ) (played : Move) : Type 0 where
  pub is_parent : parent_of tree n ≡ Some parent
  pub within : move_number_of tree parent ≤ depth
  pub plays : (node_at tree n).played ≡ Some played

-- The next moves among the first so many nodes of a game, in order of the nodes: that of each node
-- that plays one, and no other.
pub data AreNextsTo (depth : ℕ) (tree : Tree)
    (positions : List Position) : ℕ → List NextAt → Type 0 where
  nothing : AreNextsTo depth tree positions zero []
  next : {n : ℕ} {nexts : List NextAt} (parent : ℕ) (played : Move) (canonical : Position)
      (in_frame : Move) →
      AreNextsTo depth tree positions n nexts →
      IsNextAt depth tree n parent played →
      IsCanonicalPosition tree.shape (position_in positions parent) canonical →
      IsMoveInFrame tree.shape (position_in positions parent) canonical played in_frame →
      AreNextsTo depth tree positions (suc n)
      (nexts ++ record {
        canonical = canonical;
        played = in_frame;
        outcome = outcome_of tree.info.outcome_text;
      } ∷ [])
  left_out : {n : ℕ} {nexts : List NextAt} →
      AreNextsTo depth tree positions n nexts →
      ((parent : ℕ) (played : Move) → ¬ IsNextAt depth tree n parent played) →
      AreNextsTo depth tree positions (suc n) nexts
