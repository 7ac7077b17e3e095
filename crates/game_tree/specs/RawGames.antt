-- For the private functions that build trees: a raw game of a text.
use Rattle.std.specs.Prelude.{◌≡◌, ◌⊎◌, ◌≤◌, ◌++◌, ℕ, List, [], ◌∷◌, length, map, take, Contains, Option, Some, IfSome}
use Rattle.std.specs.List.{AllZip, flat_map}
use Rattle.sgf_reader.specs.declared.collection.Pair.{Pair}
use Rattle.game_tree.specs.Tree.{Node}
use Rattle.game_tree.specs.Trees.{IsNodeOf}
use Rattle.kb_geometry.specs.declared.shape.Shape.{Shape}
use Rattle.sgf_reader.specs.declared.collection.RawNode.{RawNode}
use Rattle.sgf_reader.specs.declared.fault.FaultKind.{FaultKind}
use Rattle.sgf_reader.specs.declared.fault.SgfFault.{SgfFault}
use Rattle.game_tree.specs.declared.node.Move.{Move}
use Rattle.game_tree.specs.declared.node.Setup.{Setup}
use Rattle.game_tree.specs.Built.{Built, with_node}
use Rattle.game_tree.specs.NodeValues.{AreValuesRead, HasNodeFault, IsFirstNodeFault, with_setups}
use Rattle.sgf_reader.specs.declared.collection.Collection.{Collection}
use Rattle.sgf_reader.specs.declared.collection.RawGame.{RawGame}
use Rattle.sgf_reader.specs.Faults.{IsRead}

-- The text has no fault of its syntax, and this is one of the games that it spells.
pub record IsOfText (text : List ℕ) (raw : RawGame) : Type 0 where
  pub collection : Collection
  pub read : IsRead text collection
  pub there : Contains collection.games raw

-- the node was read: its setups and its move were added to what was built
pub record IsNodeRead (text : List ℕ) (shape : Shape) (node : RawNode)
    (before after : Built) : Type 0 where
  pub setups : List Setup
  pub played : Option Move
  pub read : AreValuesRead text shape node.pairs setups played
  pub added : after ≡ with_node (with_setups before setups) node.parent played

-- What is wrong with a root: its values have a first fault, and this is that fault or the game's,
-- the first of them; or its values have none, and this is the game's.
pub data IsRootBad (text : List ℕ) (shape : Shape) (root : RawNode) (game : Option SgfFault)
    (f : SgfFault) : Type 0 where
  by_value : {of : FaultKind} {at : ℕ} →
      IsFirstNodeFault text shape root.pairs of at →
      (f ≡ record { kind = of; at = at }) ⊎ (game ≡ Some f) →
      f.at ≤ at →
      IfSome game (λ (g : SgfFault). f.at ≤ g.at) →
      IsRootBad text shape root game f
  by_game : ((of : FaultKind) (at : ℕ) → ¬ HasNodeFault text shape root.pairs of at) →
      game ≡ Some f →
      IsRootBad text shape root game f

-- the values of raw nodes, in order
abbrev pub node_pairs : List RawNode → List Pair
node_pairs nodes = flat_map (λ (node : RawNode). node.pairs) nodes

-- the parents of raw nodes, and of nodes
abbrev pub raw_parents : List RawNode → List (Option ℕ)
raw_parents nodes = map (λ (node : RawNode). node.parent) nodes

abbrev pub node_parents : List Node → List (Option ℕ)
node_parents nodes = map (λ (node : Node). node.parent) nodes

-- The first nodes of the game were read, so many: none has a fault, and they are what was built.
pub record HasBuilt (text : List ℕ) (raw : RawGame) (shape : Shape) (k : ℕ)
    (b : Built) : Type 0 where
  pub shape_is : b.shape ≡ shape
  pub parents : node_parents b.nodes ≡ take k (raw_parents raw.nodes)
  pub nodes : AllZip (IsNodeOf text shape) (take k raw.nodes) b.nodes
  pub clean : (n : RawNode) →
      Contains (take k raw.nodes) n →
      (of : FaultKind) (at : ℕ) →
      ¬ HasNodeFault text shape n.pairs of at
  pub pending : b.pending ≡ []
  pub count : b.setup_count ≤ length (node_pairs (take k raw.nodes))

-- a node of the game has this fault first, and no node before it has one
pub record IsNodeBad (text : List ℕ) (raw : RawGame) (shape : Shape) (f : SgfFault) : Type 0 where
  pub done : List RawNode
  pub node : RawNode
  pub rest : List RawNode
  pub split : raw.nodes ≡ done ++ node ∷ rest
  pub clean : (n : RawNode) →
      Contains done n →
      (of : FaultKind) (at : ℕ) →
      ¬ HasNodeFault text shape n.pairs of at
  pub first : IsFirstNodeFault text shape node.pairs f.kind f.at
