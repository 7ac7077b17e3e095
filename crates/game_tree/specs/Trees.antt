-- The game trees of a collection.
use Rattle.std.specs.Prelude.{◌≡◌, ℕ, List, [], ◌∷◌, Option, Some, None, codes}
use Rattle.std.specs.List.{AllZip}
use Rattle.kb_geometry.specs.declared.shape.Rect.{Rect}
use Rattle.kb_geometry.specs.declared.shape.Point.{Point}
use Rattle.kb_geometry.specs.declared.shape.Shape.{Shape}
use Rattle.kb_geometry.specs.declared.stone.Cell.{Cell}
use Rattle.kb_geometry.specs.declared.stone.Colour.{Colour}
use Rattle.sgf_reader.specs.declared.collection.Collection.{Collection}
use Rattle.sgf_reader.specs.declared.collection.Pair.{Pair}
use Rattle.sgf_reader.specs.declared.collection.RawGame.{RawGame}
use Rattle.sgf_reader.specs.declared.collection.RawNode.{RawNode}
use Rattle.game_tree.specs.declared.node.Move.{Move}
use Rattle.game_tree.specs.declared.node.Setup.{Setup}
use Rattle.game_tree.specs.Information.{Information}
use Rattle.game_tree.specs.Property.{bytes_of, first_pair, mover_of, setter_of}
use Rattle.game_tree.specs.SimpleText.{IsSimpleText}
use Rattle.game_tree.specs.Tree.{Node, Tree}
use Rattle.game_tree.specs.Value.{IsMoveValue, IsSetupValue}
use Rattle.game_tree.specs.ValueFaults.{IsBoard}

-- the text of a first value of a root, as SimpleText; the empty text where there is none
pub data IsTextOf (text : List ℕ) : Option Pair → List ℕ → Type 0 where
  no_value : IsTextOf text None []
  value : {pair : Pair} {simple : List ℕ} →
      IsSimpleText (bytes_of text pair.value) simple →
      IsTextOf text (Some pair) simple

-- the information of a game: the first values of PB, PW, EV, PC, DT and RE at its root
pub record IsInformation (text : List ℕ) (raw : RawGame) (info : Information) : Type 0 where
  pub black : IsTextOf text (first_pair text raw (codes "PB")) info.black
  pub white : IsTextOf text (first_pair text raw (codes "PW")) info.white
  pub event : IsTextOf text (first_pair text raw (codes "EV")) info.event
  pub place : IsTextOf text (first_pair text raw (codes "PC")) info.place
  pub date : IsTextOf text (first_pair text raw (codes "DT")) info.date
  pub outcome_text : IsTextOf text (first_pair text raw (codes "RE")) info.outcome_text

-- what these values of a node set up, in order of the text; an empty value is ignored
pub data AreSetups (text : List ℕ) (shape : Shape) : List Pair → List Setup → Type 0 where
  none : AreSetups text shape [] []
  other : {pair : Pair} {pairs : List Pair} {setups : List Setup} →
      setter_of text pair ≡ None →
      AreSetups text shape pairs setups →
      AreSetups text shape (pair ∷ pairs) setups
  ignored : {pair : Pair} {pairs : List Pair} {setups : List Setup} (cell : Cell) →
      setter_of text pair ≡ Some cell →
      IsSetupValue shape (bytes_of text pair.value) None →
      AreSetups text shape pairs setups →
      AreSetups text shape (pair ∷ pairs) setups
  set : {pair : Pair} {pairs : List Pair} {setups : List Setup} (cell : Cell) (rect : Rect) →
      setter_of text pair ≡ Some cell →
      IsSetupValue shape (bytes_of text pair.value) (Some rect) →
      AreSetups text shape pairs setups →
      AreSetups text shape (pair ∷ pairs) (record { cell = cell; rect = rect } ∷ setups)

-- what these values of a node play: the value of B or W, if there is one, and there is no second
-- one
pub data IsPlayedBy (text : List ℕ) (shape : Shape) : List Pair → Option Move → Type 0 where
  none : IsPlayedBy text shape [] None
  other : {pair : Pair} {pairs : List Pair} {played : Option Move} →
      mover_of text pair ≡ None →
      IsPlayedBy text shape pairs played →
      IsPlayedBy text shape (pair ∷ pairs) played
  move : {pair : Pair} {pairs : List Pair} (colour : Colour) (point : Option Point) →
      mover_of text pair ≡ Some colour →
      IsMoveValue shape (bytes_of text pair.value) point →
      IsPlayedBy text shape pairs None →
      IsPlayedBy text shape (pair ∷ pairs) (Some (record { colour = colour; point = point }))

-- the node of a raw node: the same parent, the setups in order, and the move
pub record IsNodeOf (text : List ℕ) (shape : Shape) (raw : RawNode) (node : Node) : Type 0 where
  pub parent : node.parent ≡ raw.parent
  pub setups : AreSetups text shape raw.pairs node.setups
  pub played : IsPlayedBy text shape raw.pairs node.played

-- the tree of a raw game: its board, its information, and its nodes in order of the text
pub record IsTreeOf (text : List ℕ) (raw : RawGame) (tree : Tree) : Type 0 where
  pub board : IsBoard text raw tree.shape
  pub info : IsInformation text raw tree.info
  pub nodes : AllZip (IsNodeOf text tree.shape) raw.nodes tree.nodes

-- the trees of a collection: one for each game, in order
abbrev pub AreTreesOf : List ℕ → Collection → List Tree → Type 0
AreTreesOf text collection trees = AllZip (IsTreeOf text) collection.games trees
