-- The faults of a collection's values, and the first of them.
use Rattle.std.specs.Prelude.{◌≡◌, ◌≢◌, ◌⊎◌, ℕ, ◌<◌, List, [], ◌∷◌, ◌++◌, Option, Some, None, Contains, codes, count_by, is_some, IsTrue}
use Rattle.kb_geometry.specs.declared.shape.Rect.{Rect}
use Rattle.kb_geometry.specs.declared.shape.Point.{Point}
use Rattle.kb_geometry.specs.declared.shape.Shape.{Shape}
use Rattle.kb_geometry.specs.Board.{cols_of, rows_of}
use Rattle.sgf_reader.specs.declared.collection.Collection.{Collection}
use Rattle.sgf_reader.specs.declared.collection.Pair.{Pair}
use Rattle.sgf_reader.specs.declared.collection.RawGame.{RawGame}
use Rattle.sgf_reader.specs.declared.collection.RawNode.{RawNode}
use Rattle.sgf_reader.specs.declared.fault.FaultKind.{FaultKind}
use Rattle.sgf_reader.specs.declared.fault.FaultKind.TheVariants as kind
use Rattle.game_tree.specs.Property.{IsTrimmed, bytes_of, first_pair, mover_of, offset_of, setter_of}
use Rattle.game_tree.specs.Value.{IsMoveValue, IsSetupValue, IsSize}

-- What the first SZ value of a root says of the board: it is 19 by 19 where there is none or an
-- empty one.
pub data IsBoardOf (text : List ℕ) : Option Pair → Shape → Type 0 where
  no_value : {shape : Shape} → cols_of shape ≡ 19 → rows_of shape ≡ 19 → IsBoardOf text None shape
  empty : {pair : Pair} {shape : Shape} →
      IsTrimmed (bytes_of text pair.value) [] →
      cols_of shape ≡ 19 →
      rows_of shape ≡ 19 →
      IsBoardOf text (Some pair) shape
  size : {pair : Pair} {shape : Shape} (inner : List ℕ) →
      IsTrimmed (bytes_of text pair.value) inner →
      IsSize inner shape →
      IsBoardOf text (Some pair) shape

-- the board of a game
abbrev pub IsBoard : List ℕ → RawGame → Shape → Type 0
IsBoard text raw shape = IsBoardOf text (first_pair text raw (codes "SZ")) shape

-- the value is a move
abbrev pub IsMove : List ℕ → Pair → Type 0
IsMove text pair = IsTrue (is_some (mover_of text pair))

-- The collection of the text has this fault at this offset, that of the value's `[`. Only the first
-- GM and SZ values of a root count. In a game whose size is bad no value is a BadPoint.
pub data HasValueFault (text : List ℕ) (collection : Collection) : FaultKind → ℕ → Type 0 where
  not_go : {raw : RawGame} (pair : Pair) (inner : List ℕ) →
      Contains collection.games raw →
      first_pair text raw (codes "GM") ≡ Some pair →
      IsTrimmed (bytes_of text pair.value) inner →
      inner ≢ [] →
      inner ≢ codes "1" →
      HasValueFault text collection kind.NotGo (offset_of pair)
  bad_size : {raw : RawGame} (pair : Pair) →
      Contains collection.games raw →
      first_pair text raw (codes "SZ") ≡ Some pair →
      ((shape : Shape) → ¬ IsBoard text raw shape) →
      HasValueFault text collection kind.BadSize (offset_of pair)
  bad_move : {raw : RawGame} {node : RawNode} (pair : Pair) (shape : Shape) →
      Contains collection.games raw →
      Contains raw.nodes node →
      Contains node.pairs pair →
      IsBoard text raw shape →
      IsMove text pair →
      ((move : Option Point) → ¬ IsMoveValue shape (bytes_of text pair.value) move) →
      HasValueFault text collection kind.BadPoint (offset_of pair)
  bad_setup : {raw : RawGame} {node : RawNode} (pair : Pair) (shape : Shape) →
      Contains collection.games raw →
      Contains raw.nodes node →
      Contains node.pairs pair →
      IsBoard text raw shape →
      IsTrue (is_some (setter_of text pair)) →
      ((rect : Option Rect) → ¬ IsSetupValue shape (bytes_of text pair.value) rect) →
      HasValueFault text collection kind.BadPoint (offset_of pair)
  two_moves : {raw : RawGame} {node : RawNode} (pair : Pair) (before after : List Pair) →
      Contains collection.games raw →
      Contains raw.nodes node →
      node.pairs ≡ before ++ pair ∷ after →
      IsMove text pair →
      count_by (λ (p : Pair). is_some (mover_of text p)) before ≡ 1 →
      HasValueFault text collection kind.TwoMoves (offset_of pair)

-- Of the faults of the collection's values this is the one of least offset. At one value TwoMoves
-- comes before BadPoint.
pub record IsFirstValueFault (text : List ℕ) (collection : Collection) (of : FaultKind) (at : ℕ) :
    Type 0 where
  pub there : HasValueFault text collection of at
  pub first : (other : FaultKind) (offset : ℕ) →
      HasValueFault text collection other offset →
      (at < offset) ⊎ ((at ≡ offset) × ((other ≡ of) ⊎ (of ≡ kind.TwoMoves)))
