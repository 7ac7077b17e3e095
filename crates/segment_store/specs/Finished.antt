-- What is kept beside the tree of a finished game.
use Rattle.std.specs.Prelude.{◌≡◌, ℕ, List, Option, ℤ}
use Rattle.kb_geometry.specs.declared.stone.Outcome.{Outcome}
use Rattle.game_tree.specs.Result.{outcome_of}
use Rattle.game_tree.specs.Tree.{IsTree, Tree}
use Rattle.capture_board.specs.Deltas.{Deltas}
use Rattle.final_index.specs.declared.ever_sets.EverSets.{EverSets}
use Rattle.final_index.specs.Ever.{AreSetsOf}
use Rattle.capture_index.specs.NodePositions.{NodePositions, positions_of}
use Rattle.corner_index.specs.Corners.{AreNumbersOfGame, HadNumber}
use Rattle.node_position.specs.Games.{AreNodeChanges, Game}
use Rattle.info_filter.specs.Day.{IsDayOf}
use Rattle.dyer_signature.specs.Images.{IsCanonicalForm}
use Rattle.dyer_signature.specs.Signatures.{IsSignatureOf, IsSignatureOn}

-- the canonical form of the signature of a tree
pub record IsCanonicalOf (tree : Tree) (form : List ℕ) : Type 0 where
  pub signature : List ℕ
  pub of_tree : IsSignatureOf tree signature
  pub canonical : IsCanonicalForm tree.shape signature form
  pub on_board : IsSignatureOn tree.shape form

-- the sets are those of the changes at the nodes of the tree
abbrev pub AreSetsOfTree : Tree → EverSets → Type 0
AreSetsOfTree tree sets = (changes : Deltas) → AreNodeChanges tree changes → AreSetsOf changes sets

-- the positions and parents are those of the nodes of the tree
abbrev pub AreRunsOfTree : Tree → NodePositions → Type 0
AreRunsOfTree tree seen = (changes : Deltas) → AreNodeChanges tree changes →
    seen ≡ positions_of changes

-- the numbers are those that the corners had at the nodes of the tree
abbrev pub AreCornersOfTree : Tree → List (List ℕ) → Type 0
AreCornersOfTree tree keys = (changes : Deltas) → AreNodeChanges tree changes →
    AreNumbersOfGame changes keys

-- a corner of the game's board had this number at some node of its tree
abbrev pub HadCornerNumber : Game → ℕ → ℕ → Type 0
HadCornerNumber game corner key = (changes : Deltas) → AreNodeChanges game.tree changes →
    HadNumber changes corner key

-- there are changes at the nodes of the tree
abbrev pub HasChanges : Tree → Type 0
HasChanges tree = (changes : Deltas) × AreNodeChanges tree changes

-- What is kept beside a tree is the tree's: its changes, its day, the class of its result, and the
-- canonical form of its signature.
pub record IsOfItsTree (tree : Tree) (changes : Deltas) (day : Option ℤ) (outcome : Outcome)
    (form : List ℕ) : Type 0 where
  pub is_tree : IsTree tree
  pub are_changes : AreNodeChanges tree changes
  pub is_day : IsDayOf tree.info.date day
  pub is_outcome : outcome ≡ outcome_of tree.info.outcome_text
  pub is_canonical : IsCanonicalOf tree form

-- What searches ask of a game is the tree's too: its sets, its runs, and the numbers of its
-- corners.
pub record AreIndexesOf (tree : Tree) (sets : EverSets) (seen : NodePositions)
    (keys : List (List ℕ)) : Type 0 where
  pub are_sets : AreSetsOfTree tree sets
  pub are_runs : AreRunsOfTree tree seen
  pub are_corners : AreCornersOfTree tree keys
