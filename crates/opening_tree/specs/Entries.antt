-- The entries of a game: the nodes at which a position comes up.
use Prim.Native.Nat.{zero}
use Rattle.std.specs.Prelude.{◌≢◌, ℕ, suc, ◌≤◌, List, [], ◌∷◌, ◌++◌, slice_index_or, IfSome}
use Rattle.kb_geometry.specs.declared.stone.Outcome.{Outcome}
use Rattle.kb_geometry.specs.Capture.{Position}
use Rattle.game_tree.specs.Result.{outcome_of}
use Rattle.game_tree.specs.Tree.{Tree, move_number_of, parent_of}
use Rattle.opening_tree.specs.Canonical.{IsCanonicalPosition}

-- an entry: the number of its game, its node, the canonical position of the position there, and
-- how the game ended
pub record Entry : Type 0 where
  pub game : ℕ
  pub node : ℕ
  pub canonical : Position
  pub outcome : Outcome

-- the position at a node, of the positions at all nodes
abbrev pub position_in : List Position → ℕ → Position
position_in positions n = slice_index_or positions n []

-- A node is an entry: its move number is at most the depth, and it is the root, or its position
-- differs from its parent's.
pub record IsEntryAt (depth : ℕ) (tree : Tree) (positions : List Position) (n : ℕ) : Type 0 where
  pub within : move_number_of tree n ≤ depth
  pub changed : IfSome (parent_of tree n) (λ m. position_in positions n ≢ position_in positions m)

-- The entries among the first so many nodes of the game with this number, in order of the nodes:
-- each node that is an entry, and no other.
pub data AreEntriesTo (depth number : ℕ) (tree : Tree)
    (positions : List Position) : ℕ → List Entry → Type 0 where
  nothing : AreEntriesTo depth number tree positions zero []
  entry : {n : ℕ} {entries : List Entry} (canonical : Position) →
      AreEntriesTo depth number tree positions n entries →
      IsEntryAt depth tree positions n →
      IsCanonicalPosition tree.shape (position_in positions n) canonical →
      AreEntriesTo depth number tree positions (suc n)
      (entries ++ record {
        game = number;
        node = n;
        canonical = canonical;
        outcome = outcome_of tree.info.outcome_text;
      } ∷ [])
  left_out : {n : ℕ} {entries : List Entry} →
      AreEntriesTo depth number tree positions n entries →
      ¬ IsEntryAt depth tree positions n →
      AreEntriesTo depth number tree positions (suc n) entries
