-- For the private functions that build trees: the values of one node, read in order of the text.
use Rattle.std.specs.Prelude.{◌≡◌, ◌⊎◌, ℕ, ◌+◌, ◌<◌, ◌≤◌, List, [], ◌∷◌, ◌++◌, length, Option, Some, None, IsTrue, is_some, count_by, AllPairs, IfSome}
use Rattle.kb_geometry.specs.declared.stone.Cell.{Cell}
use Rattle.kb_geometry.specs.declared.stone.Colour.{Colour}
use Rattle.kb_geometry.specs.Board.{IsOnBoard}
use Rattle.kb_geometry.specs.declared.shape.Rect.{Rect}
use Rattle.kb_geometry.specs.declared.shape.Point.{Point}
use Rattle.kb_geometry.specs.declared.shape.Shape.{Shape}
use Rattle.sgf_reader.specs.declared.collection.Pair.{Pair}
use Rattle.sgf_reader.specs.declared.fault.FaultKind.{FaultKind}
use Rattle.sgf_reader.specs.declared.fault.FaultKind.TheVariants as kind
use Rattle.game_tree.specs.declared.node.Move.{Move}
use Rattle.game_tree.specs.declared.node.Setup.{Setup}
use Rattle.game_tree.specs.Built.{Built}
use Rattle.game_tree.specs.Property.{bytes_of, mover_of, offset_of, setter_of}
use Rattle.game_tree.specs.Trees.{AreSetups, IsPlayedBy}
use Rattle.game_tree.specs.Value.{IsMoveValue, IsSetupValue}
use Rattle.game_tree.specs.ValueFaults.{IsMove}

-- the spans of a value lie in a text of this length, and its `[` stands before it
pub record LiesIn (end : ℕ) (pair : Pair) : Type 0 where
  pub name : pair.name.from ≤ pair.name.to
  pub name_in : pair.name.to ≤ end
  pub bracket : 1 ≤ pair.value.from
  pub value : pair.value.from ≤ pair.value.to
  pub value_in : pair.value.to ≤ end

-- the values stand in order of the text
abbrev pub Ascend : List Pair → Type 0
Ascend pairs = AllPairs (λ (a b : Pair). a.value.from < b.value.from) pairs

-- A value of a node whose board is this has this fault by itself: it is a move behind so many
-- others, or no form of its kind.
pub data HasPairFault (text : List ℕ) (shape : Shape) (before : List Pair)
    (pair : Pair) : FaultKind → Type 0 where
  second_of_two : IsMove text pair →
      count_by (λ (p : Pair). is_some (mover_of text p)) before ≡ 1 →
      HasPairFault text shape before pair kind.TwoMoves
  bad_move : IsMove text pair →
      ((move : Option Point) → ¬ IsMoveValue shape (bytes_of text pair.value) move) →
      HasPairFault text shape before pair kind.BadPoint
  bad_setup : IsTrue (is_some (setter_of text pair)) →
      ((rect : Option Rect) → ¬ IsSetupValue shape (bytes_of text pair.value) rect) →
      HasPairFault text shape before pair kind.BadPoint

-- one of these values, each by those before it, has this fault at this offset
pub record HasNodeFault (text : List ℕ) (shape : Shape) (pairs : List Pair) (of : FaultKind)
    (at : ℕ) : Type 0 where
  pub before : List Pair
  pub pair : Pair
  pub after : List Pair
  pub split : pairs ≡ before ++ pair ∷ after
  pub fault : HasPairFault text shape before pair of
  pub here : at ≡ offset_of pair

-- the one fault comes before the other, or is it; at one offset TwoMoves comes first
abbrev pub ComesFirst : FaultKind → ℕ → FaultKind → ℕ → Type 0
ComesFirst of at other offset = (at < offset)
    ⊎ ((at ≡ offset) × ((other ≡ of) ⊎ (of ≡ kind.TwoMoves)))

-- the first fault of these values
pub record IsFirstNodeFault (text : List ℕ) (shape : Shape) (pairs : List Pair) (of : FaultKind)
    (at : ℕ) : Type 0 where
  pub there : HasNodeFault text shape pairs of at
  pub first : (other : FaultKind) (offset : ℕ) →
      HasNodeFault text shape pairs other offset →
      ComesFirst of at other offset

-- these setups more of the node that is being read
abbrev pub with_setups : Built → List Setup → Built
with_setups b setups = record {
  shape = b.shape;
  nodes = b.nodes;
  pending = b.pending ++ setups;
  setup_count = b.setup_count + length setups;
}

-- what the values of a node do: setups in order and at most one move, and none of them has a fault
pub record AreValuesRead (text : List ℕ) (shape : Shape) (pairs : List Pair) (setups : List Setup)
    (played : Option Move) : Type 0 where
  pub sets : AreSetups text shape pairs setups
  pub plays : IsPlayedBy text shape pairs played
  pub no_fault : (of : FaultKind) (at : ℕ) → ¬ HasNodeFault text shape pairs of at

-- the setup of a value to a cell, where it names a rectangle
abbrev pub setups_of : Cell → Option Rect → List Setup
setups_of cell None = []
setups_of cell (Some rect) = record { cell = cell; rect = rect } ∷ []

-- the move's point lies on the board, if it has one
abbrev pub IsMoveOnBoard : Shape → Move → Type 0
IsMoveOnBoard shape m = IfSome m.point (λ (p : Point). IsOnBoard shape p)

-- What one value does, by the move so far: it is the first move, it sets up a rectangle or nothing,
-- or it does nothing.
pub data IsValueRead (text : List ℕ) (shape : Shape) (pair : Pair) : Option Move → Option Move →
    List Setup → Type 0 where
  plays : (colour : Colour) (point : Option Point) →
      mover_of text pair ≡ Some colour →
      IsMoveValue shape (bytes_of text pair.value) point →
      IsValueRead text shape pair None (Some (record { colour = colour; point = point })) []
  sets : {played : Option Move} (cell : Cell) (rect : Option Rect) →
      mover_of text pair ≡ None →
      setter_of text pair ≡ Some cell →
      IsSetupValue shape (bytes_of text pair.value) rect →
      IsValueRead text shape pair played played (setups_of cell rect)
  nothing : {played : Option Move} →
      mover_of text pair ≡ None →
      setter_of text pair ≡ None →
      IsValueRead text shape pair played played []

-- What is wrong with one value, by the move so far.
pub data IsValueBad (text : List ℕ) (shape : Shape) (pair : Pair) : Option Move → FaultKind →
    Type 0 where
  second_move : {m : Move} → IsMove text pair → IsValueBad text shape pair (Some m) kind.TwoMoves
  no_move : IsMove text pair →
      ((move : Option Point) → ¬ IsMoveValue shape (bytes_of text pair.value) move) →
      IsValueBad text shape pair None kind.BadPoint
  no_setup : {played : Option Move} →
      mover_of text pair ≡ None →
      IsTrue (is_some (setter_of text pair)) →
      ((rect : Option Rect) → ¬ IsSetupValue shape (bytes_of text pair.value) rect) →
      IsValueBad text shape pair played kind.BadPoint
