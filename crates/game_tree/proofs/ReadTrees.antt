-- The trees of a collection that was read are trees.
use Rattle.std.proofs.Common.{◌≡◌, ◌∙◌, ℕ, List, [], ◌∷◌, All, Option, Some, None, IfSome, refl, sym, ap, subst, arith, length, get_or}
use Rattle.std.specs.List.{AllZip}
use Rattle.std.proofs.lemmas.List.{length-map}
use Rattle.std.proofs.lemmas.List.Elements.{All-cons, All-get_or, All-head, All-nil, All-tail}
use Rattle.node_paths.specs.Parents.{AreParents, MayHaveParent}
use Rattle.kb_geometry.specs.declared.shape.Point.{Point}
use Rattle.kb_geometry.specs.declared.shape.Rect.{Rect}
use Rattle.kb_geometry.specs.declared.shape.Shape.{Shape}
use Rattle.kb_geometry.specs.Board.{IsOnBoard, IsOrderedRectOnBoard}
use Rattle.sgf_reader.specs.declared.collection.Collection.{Collection}
use Rattle.sgf_reader.specs.declared.collection.Pair.{Pair}
use Rattle.sgf_reader.specs.declared.collection.RawGame.{RawGame}
use Rattle.sgf_reader.specs.declared.collection.RawNode.{RawNode}
use Rattle.sgf_reader.specs.Faults.{IsRead}
use Rattle.game_tree.specs.declared.node.Move.{Move}
use Rattle.game_tree.specs.declared.node.Setup.{Setup}
use Rattle.game_tree.specs.Built.{IsGrown}
use Rattle.game_tree.specs.Information.{HasSimpleTexts, Information}
use Rattle.game_tree.specs.Property.{root_pairs}
use Rattle.game_tree.specs.RawGames.{node_parents, raw_parents}
use Rattle.game_tree.specs.Tree.{IsNodeOnBoard, IsTree, Node, Tree, node_count, parent_of}
use Rattle.game_tree.specs.Trees.{AreSetups, AreTreesOf, IsInformation, IsNodeOf, IsPlayedBy, IsTreeOf}
use Rattle.game_tree.specs.Trees as told
use Rattle.game_tree.specs.Value.{IsMoveText, IsPoint, IsSetupText, one_point, rect_of, rectangle}
use Rattle.game_tree.proofs.HungTrees.{few_branchings, may-hung, parent-by}
use Rattle.game_tree.proofs.Passes.{point_text_of}
use Rattle.game_tree.proofs.ReadCollections.{GameIsRead, games-read}
use Rattle.game_tree.proofs.Trees.{parent-past}
use Rattle.game_tree.proofs.Values.{point_letters}
use Rattle.game_tree.proofs.WholeGames.{simple-texts}

-- ---- what values name lies on the board

point-on_board : (shape : Shape) (text : List ℕ) (p : Point) → IsPoint shape text p →
    IsOnBoard shape p
point-on_board shape text p at =
    let (column, row, is, x, y, on) = point_letters shape text p at in on

corners-on_board : (shape : Shape) (p q : Point) → IsOnBoard shape p → IsOnBoard shape q →
    IsOrderedRectOnBoard shape (rect_of p q)
corners-on_board shape p q at_p at_q = (omega arith, omega arith, omega arith, omega arith)

setup-on_board : (shape : Shape) (text : List ℕ) (r : Rect) → IsSetupText shape text (Some r) →
    IsOrderedRectOnBoard shape r
setup-on_board shape text _ (one_point {p = p} at) =
    let on = point-on_board shape text p at in
    corners-on_board shape p p on on
setup-on_board shape _ _ (rectangle {p = p} {q = q} one other at_one at_other) =
    corners-on_board shape p q (point-on_board shape one p at_one)
    (point-on_board shape other q at_other)

move-on_board : (shape : Shape) (text : List ℕ) (move : Option Point) →
    IsMoveText shape text move → IfSome move (λ (p : Point). IsOnBoard shape p)
move-on_board shape text None is = tt
move-on_board shape text (Some p) is = point-on_board shape text p (point_text_of shape text p is)

-- ---- nodes

module _ (text : List ℕ) (shape : Shape) where
  setups-on_board : (pairs : List Pair) (setups : List Setup) →
      AreSetups text shape pairs setups → All (λ (s : Setup). IsOrderedRectOnBoard shape s.rect) setups
  setups-on_board _ _ told.none = All-nil (λ (s : Setup). IsOrderedRectOnBoard shape s.rect)
  setups-on_board _ setups (told.other {pairs = pairs} e rest) = setups-on_board pairs setups rest
  setups-on_board _ setups (told.ignored {pairs = pairs} cell e v rest) =
      setups-on_board pairs setups rest
  setups-on_board _ _ (told.set {pairs = pairs} {setups = setups} cell rect e (inner, _, is) rest) =
      All-cons (λ (s : Setup). IsOrderedRectOnBoard shape s.rect) (record { cell = cell; rect = rect }) setups
      (setup-on_board shape inner rect is) (setups-on_board pairs setups rest)

  played-on_board : (pairs : List Pair) (played : Option Move) →
      IsPlayedBy text shape pairs played →
      IfSome played (λ (m : Move). IfSome m.point (λ (p : Point). IsOnBoard shape p))
  played-on_board _ _ told.none = tt
  played-on_board _ played (told.other {pairs = pairs} e rest) = played-on_board pairs played rest
  played-on_board _ _ (told.move colour point e (inner, _, is) rest) =
      move-on_board shape inner point is

  node-on_board : (raw : RawNode) (node : Node) → IsNodeOf text shape raw node →
      IsNodeOnBoard shape node
  node-on_board raw node h = record {
    setups = setups-on_board raw.pairs node.setups h.setups;
    played = played-on_board raw.pairs node.played h.played;
  }

  nodes-on_board : (raws : List RawNode) (nodes : List Node) →
      AllZip (IsNodeOf text shape) raws nodes → All (IsNodeOnBoard shape) nodes
  nodes-on_board [] [] h = All-nil (IsNodeOnBoard shape)
  nodes-on_board [] (node ∷ nodes) h = absurd h
  nodes-on_board (raw ∷ raws) [] h = absurd h
  nodes-on_board (raw ∷ raws) (node ∷ nodes) (own, rest) =
      All-cons (IsNodeOnBoard shape) node nodes (node-on_board raw node own)
      (nodes-on_board raws nodes rest)

  same-parents : (raws : List RawNode) (nodes : List Node) →
      AllZip (IsNodeOf text shape) raws nodes → node_parents nodes ≡ raw_parents raws
  same-parents [] [] h = refl
  same-parents [] (node ∷ nodes) h = absurd h
  same-parents (raw ∷ raws) [] h = absurd h
  same-parents (raw ∷ raws) (node ∷ nodes) (own, rest) =
      let parent : node.parent ≡ raw.parent = own.parent in
      let others = same-parents raws nodes rest in
      cc (parent, others)

-- ---- trees

-- the texts of a game have no control characters
information-simple : (text : List ℕ) (raw : RawGame) (info : Information) →
    IsInformation text raw info → HasSimpleTexts info
information-simple text raw info h = simple-texts text (root_pairs raw) info (record {
  black = h.black;
  white = h.white;
  event = h.event;
  place = h.place;
  date = h.date;
  outcome_text = h.outcome_text;
})

-- a tree whose nodes hang below each other as those of a raw game
module _ (end : ℕ) (raw : RawGame) (read : GameIsRead end raw) (tree : Tree)
    (same : node_parents tree.nodes ≡ raw_parents raw.nodes) where
  as_many : length (raw_parents raw.nodes) ≡ node_count tree
  as_many = sym (ap length same) ∙ length-map tree.nodes (λ (node : Node). node.parent)

  count : node_count tree ≡ length raw.nodes
  count = sym as_many ∙ length-map raw.nodes (λ (node : RawNode). node.parent)

  agree : (n : ℕ) → parent_of tree n ≡ get_or (raw_parents raw.nodes) n None
  agree n = parent-by tree n ∙ ap (λ parents. get_or parents n None) same

  hung-parents : AreParents (parent_of tree) (node_count tree)
  hung-parents = record {
    each = λ n below.
        subst (λ (o : Option ℕ). MayHaveParent (parent_of tree) n o) (sym (agree n))
        (may-hung (raw_parents raw.nodes) read.depths read.hung (parent_of tree) n (omega (arith, as_many)) (λ k inside. agree k));
    past = parent-past tree;
  }

  hung-grown : All (IsNodeOnBoard tree.shape) tree.nodes → IsGrown tree
  hung-grown on = record {
    most = omega (arith, count, read.few);
    parents = hung-parents;
    on_board = λ n below. All-get_or (IsNodeOnBoard tree.shape) tree.nodes n _ below on;
  }

  hung-tree : All (IsNodeOnBoard tree.shape) tree.nodes → HasSimpleTexts tree.info → IsTree tree
  hung-tree on simple =
      let grown = hung-grown on in
      record {
        some = omega (arith, count, read.some);
        most = grown.most;
        parents = grown.parents;
        on_board = grown.on_board;
        depth = few_branchings end raw read tree grown same;
        texts = simple;
      }

-- the tree of a raw game whose nodes hang below each other
pub read-tree : (text : List ℕ) (end : ℕ) (raw : RawGame) (tree : Tree) → GameIsRead end raw →
    IsTreeOf text raw tree → IsTree tree
read-tree text end raw tree read h =
    hung-tree end raw read tree (same-parents text tree.shape raw.nodes tree.nodes h.nodes)
    (nodes-on_board text tree.shape raw.nodes tree.nodes h.nodes)
    (information-simple text raw tree.info h.info)

read-trees-each : (text : List ℕ) (end : ℕ) (raws : List RawGame) (trees : List Tree) →
    All (GameIsRead end) raws → AllZip (IsTreeOf text) raws trees → All IsTree trees
read-trees-each text end [] [] read are = All-nil IsTree
read-trees-each text end [] (tree ∷ trees) read are = absurd are
read-trees-each text end (raw ∷ raws) [] read are = absurd are
read-trees-each text end (raw ∷ raws) (tree ∷ trees) read (own, rest) =
    All-cons IsTree tree trees
    (read-tree text end raw tree (All-head (GameIsRead end) raw raws read) own)
    (read-trees-each text end raws trees (All-tail (GameIsRead end) raw raws read) rest)

-- the trees of a collection that was read are trees
pub read-trees : (text : List ℕ) (collection : Collection) (trees : List Tree) →
    IsRead text collection → AreTreesOf text collection trees → All IsTree trees
read-trees text collection trees read are =
    read-trees-each text (length text) collection.games trees
    (games-read text collection read).each are
