-- For the private functions that build trees: the faults of the values of one game.
use Rattle.std.specs.Prelude.{◌≡◌, ℕ, List, Some, Contains, codes}
use Rattle.kb_geometry.specs.declared.shape.Shape.{Shape}
use Rattle.sgf_reader.specs.declared.collection.Pair.{Pair}
use Rattle.sgf_reader.specs.declared.collection.RawGame.{RawGame}
use Rattle.sgf_reader.specs.declared.collection.RawNode.{RawNode}
use Rattle.sgf_reader.specs.declared.fault.FaultKind.{FaultKind}
use Rattle.sgf_reader.specs.declared.fault.FaultKind.TheVariants as kind
use Rattle.game_tree.specs.NodeValues.{ComesFirst, HasNodeFault}
use Rattle.game_tree.specs.Property.{first_pair, offset_of}
use Rattle.game_tree.specs.Roots.{IsOtherGame, IsSecond}
use Rattle.game_tree.specs.ValueFaults.{IsBoard}

-- The game has this fault at this offset: its root says that it is another game, or has no size; a
-- node's values are faulty on the game's board; or, whether the game has a board or not, a node has
-- a second move.
pub data HasGameFault (text : List ℕ) (raw : RawGame) : FaultKind → ℕ → Type 0 where
  other_game : (pair : Pair) →
      first_pair text raw (codes "GM") ≡ Some pair →
      IsOtherGame text pair →
      HasGameFault text raw kind.NotGo (offset_of pair)
  no_size : (pair : Pair) →
      first_pair text raw (codes "SZ") ≡ Some pair →
      ((shape : Shape) → ¬ IsBoard text raw shape) →
      HasGameFault text raw kind.BadSize (offset_of pair)
  in_node : {of : FaultKind} {at : ℕ} (shape : Shape) (node : RawNode) →
      IsBoard text raw shape →
      Contains raw.nodes node →
      HasNodeFault text shape node.pairs of at →
      HasGameFault text raw of at
  second_move : (node : RawNode) (pair : Pair) →
      Contains raw.nodes node →
      IsSecond text node.pairs pair →
      HasGameFault text raw kind.TwoMoves (offset_of pair)

-- the first fault of the game
pub record IsFirstGameFault (text : List ℕ) (raw : RawGame) (of : FaultKind) (at : ℕ) : Type 0 where
  pub there : HasGameFault text raw of at
  pub first : (other : FaultKind) (offset : ℕ) →
      HasGameFault text raw other offset →
      ComesFirst of at other offset
