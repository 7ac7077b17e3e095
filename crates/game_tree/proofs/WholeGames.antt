-- A whole game that is built: its tree, or its first fault.
use Rattle.std.proofs.Common.{◌≡◌, ◌⊎◌, ◌≤◌, ◌<◌, ◌∙◌, ℕ, List, [], ◌∷◌, All, Contains, Option, Some, None, IfSome, sym, ap, subst, arith, length, get_or, drop, inl, inr, codes}
use Rattle.std.specs.Prelude.{slice_get}
use Rattle.std.specs.Option.{option_map_or}
use Rattle.std.specs.List.{AllZip}
use lib.Seq.{drop-cons}
use Rattle.std.proofs.lemmas.List.{length-map, take_all}
use Rattle.kb_geometry.specs.declared.shape.Shape.{Shape}
use Rattle.sgf_reader.specs.declared.collection.Pair.{Pair}
use Rattle.sgf_reader.specs.declared.collection.RawGame.{RawGame}
use Rattle.sgf_reader.specs.declared.collection.RawNode.{RawNode}
use Rattle.sgf_reader.specs.declared.fault.FaultKind.{FaultKind}
use Rattle.sgf_reader.specs.declared.fault.SgfFault.{SgfFault}
use Rattle.game_tree.specs.declared.building.BuildError.TheVariants.{Fault}
use Rattle.game_tree.specs.Built.{Built, IsGrown, nothing_built, tree_of, tree_so_far}
use Rattle.game_tree.specs.GameFaults.{HasGameFault, IsFirstGameFault}
use Rattle.game_tree.specs.Information.{HasNoControls, HasSimpleTexts, Information}
use Rattle.game_tree.specs.NodeValues.{Ascend, HasNodeFault, LiesIn}
use Rattle.game_tree.specs.Property.{root_pairs}
use Rattle.game_tree.specs.RawGames.{HasBuilt, IsNodeBad, IsNodeRead, IsOfText, IsRootBad, by_game, by_value, node_pairs, node_parents, raw_parents}
use Rattle.game_tree.specs.Roots.{IsGameFault, IsInformationIn, IsSecondMove, IsSizeFault}
use Rattle.game_tree.specs.Roots as roots
use Rattle.game_tree.specs.Tree.{Node, Tree, branchings_to}
use Rattle.game_tree.specs.Trees.{IsInformation, IsNodeOf, IsTextOf, IsTreeOf}
use Rattle.game_tree.specs.Trees as told
use Rattle.game_tree.specs.ValueFaults.{IsBoard, IsBoardOf}
use Rattle.game_tree.proofs.BuiltGames.{HasBuilt-more, HasBuilt-start, IsNext, next-at, of_text}
use Rattle.game_tree.proofs.GameFaults.{both_first, clean_game, first_of_game, other_game_first, without_board}
use Rattle.game_tree.proofs.HungTrees.{few_branchings}
use Rattle.game_tree.proofs.OneTree.{IsBoard-only}
use Rattle.game_tree.proofs.Parts.{All-part, Contains-head}
use Rattle.game_tree.proofs.SimpleTexts.{simple_text-no_controls}
use Rattle.game_tree.proofs.StoredGrowth.{IsGrown-info}

some_eq : {x y : SgfFault} → Some x ≡ Some y → x ≡ y
some_eq e = cc

-- a game of a text has a root
pub root-there : (text : List ℕ) (raw : RawGame) → IsOfText text raw → 1 ≤ length raw.nodes
root-there text raw known = (of_text text raw known).0.some

-- the root of a game, and the other nodes
pub root-first : (raw : RawGame) (root : RawNode) → 1 ≤ length raw.nodes → root ≡ get_or raw.nodes 0 root → raw.nodes ≡ root ∷ drop 1 raw.nodes
root-first raw root some is = drop-cons raw.nodes 0 root some ∙ ap (λ (n : RawNode). n ∷ drop 1 raw.nodes) (sym is)

module _ (text : List ℕ) (raw : RawGame) (known : IsOfText text raw) (root : RawNode) (others : List RawNode) (is : raw.nodes ≡ root ∷ others) where
  some : 0 < length raw.nodes
  some = omega (arith, root-there text raw known)

  root-place : get_or raw.nodes 0 root ≡ root
  root-place = ap (λ ns. get_or ns 0 root) is

  pub root-values : root_pairs raw ≡ root.pairs
  root-values = ap (λ ns. option_map_or (λ (n : RawNode). n.pairs) (slice_get ns 0) []) is

  pub root-next : (shape : Shape) → IsNext text (nothing_built shape) root
  root-next shape = subst (IsNext text (nothing_built shape)) root-place (next-at text raw shape 0 root (nothing_built shape) known some (HasBuilt-start text raw shape))

  pub root-inside : All (LiesIn (length text)) root.pairs
  root-inside = All-part (LiesIn (length text)) (λ (n : RawNode). n.pairs) raw.nodes root (of_text text raw known).0.inside (subst (λ ns. Contains ns root) (sym is) (Contains-head root others))

  pub root-parent : root.parent ≡ None
  root-parent = sym (ap (λ ns. get_or (raw_parents ns) 0 None) is) ∙ (of_text text raw known).0.hung.root_parent

  pub root-built : (shape : Shape) (after : Built) → IsNodeRead text shape root (nothing_built shape) after → HasBuilt text raw shape 1 after
  root-built shape after read = HasBuilt-more text raw shape 0 root (nothing_built shape) after some (HasBuilt-start text raw shape) (subst (λ (n : RawNode). IsNodeRead text shape n (nothing_built shape) after) (sym root-place) read)

  -- what is wrong with a game without a board
  pub no-board : (game second : Option SgfFault) (size between result : SgfFault) → IsGameFault text root.pairs game → IsSecondMove text root.pairs second → IsSizeFault text (roots.first_in text root.pairs (codes "SZ")) size → (between ≡ size) ⊎ (game ≡ Some between) → between.at ≤ size.at → IfSome game (λ (g : SgfFault). between.at ≤ g.at) → (result ≡ between) ⊎ (second ≡ Some result) → result.at ≤ between.at → IfSome second (λ (t : SgfFault). result.at ≤ t.at) → IsFirstGameFault text raw result.kind result.at
  no-board game second size between result go moves (sized, found, size_is, none) one_of le_size le_game last le_between le_second =
      let read = of_text text raw known in
      let same = sym root-values in
      without_board text raw read.0.inside read.1 root others is sized (subst (λ ps. roots.first_in text ps (codes "SZ") ≡ Some sized) same found) (λ shape. subst (λ ps. ¬ IsBoardOf text (roots.first_in text ps (codes "SZ")) shape) same (none shape)) game second size between result (subst (λ ps. IsGameFault text ps game) same go) moves size_is one_of le_size le_game last le_between le_second

  module _ (shape : Shape) (board : IsBoard text raw shape) where
    once : (a b : Shape) → IsBoard text raw a → IsBoard text raw b → a ≡ b
    once a b = IsBoard-only text raw a b

    inside : All (LiesIn (length text)) (node_pairs raw.nodes)
    inside = (of_text text raw known).0.inside

    ascend : Ascend (node_pairs raw.nodes)
    ascend = (of_text text raw known).1

    none-before : (n : RawNode) → Contains [] n → (of : FaultKind) (at : ℕ) → ¬ HasNodeFault text shape n.pairs of at
    none-before n (k, below, same) = absurd (omega arith)

    -- what is wrong with the root is what is wrong with the game
    pub root-bad : (game : Option SgfFault) (f : SgfFault) → IsGameFault text (root_pairs raw) game → IsRootBad text shape root game f → IsFirstGameFault text raw f.kind f.at
    root-bad _ f (roots.same_game go) (by_value {of = of} {at = at} first (inl e) least least_game) =
        subst (λ (r : SgfFault). IsFirstGameFault text raw r.kind r.at) (sym e) (first_of_game text raw inside ascend shape board once [] root others of at is (roots.same_game go) none-before first)
    root-bad _ f (roots.same_game go) (by_value first (inr e) least least_game) = absurd (cc)
    root-bad _ f (roots.same_game go) (by_game clean e) = absurd (cc)
    root-bad _ f (roots.other_game pair found bad) (by_value {of = of} {at = at} first (inl e) least least_game) =
        both_first text raw inside ascend shape board once root others is pair found bad of at f first (inl e) least least_game
    root-bad _ f (roots.other_game pair found bad) (by_value {of = of} {at = at} first (inr e) least least_game) =
        let same = sym (some_eq e) in
        both_first text raw inside ascend shape board once root others is pair found bad of at f first (inr same) least least_game
    root-bad _ f (roots.other_game pair found bad) (by_game clean e) =
        subst (λ (r : SgfFault). IsFirstGameFault text raw r.kind r.at) (some_eq e) (other_game_first text raw inside ascend shape board once root others is pair found bad clean)

    -- what is wrong with a later node
    pub others-bad : (game : Option SgfFault) (f : SgfFault) → IsGameFault text (root_pairs raw) game → game ≡ None → IsNodeBad text raw shape f → IsFirstGameFault text raw f.kind f.at
    others-bad game f go none bad =
        first_of_game text raw inside ascend shape board once bad.done bad.node bad.rest f.kind f.at bad.split (subst (IsGameFault text (root_pairs raw)) none go) bad.clean bad.first

    -- nothing is wrong with a game of which all nodes were read
    pub all-clean : (game : Option SgfFault) (b : Built) → IsGameFault text (root_pairs raw) game → game ≡ None → HasBuilt text raw shape (length raw.nodes) b → (of : FaultKind) (at : ℕ) → ¬ HasGameFault text raw of at
    all-clean game b go none built =
        clean_game text raw inside ascend shape board once (subst (IsGameFault text (root_pairs raw)) none go)
        (λ n there. built.clean n (subst (λ ns. Contains ns n) (sym (take_all (length raw.nodes) raw.nodes (omega arith))) there))

    -- the parents of all nodes
    all-parents : (b : Built) → HasBuilt text raw shape (length raw.nodes) b → node_parents b.nodes ≡ raw_parents raw.nodes
    all-parents b built = built.parents ∙ take_all (length raw.nodes) (raw_parents raw.nodes) (omega (arith, length-map raw.nodes (λ (n : RawNode). n.parent)))

    pub shallow : (b : Built) (info : Information) → HasBuilt text raw shape (length raw.nodes) b → IsGrown (tree_so_far b) → (n : ℕ) → n < length b.nodes → branchings_to (tree_of b info) n < 1024
    shallow b info built grown n below = few_branchings (length text) raw (of_text text raw known).0 (tree_of b info) (IsGrown-info b info grown) (all-parents b built) n below

    pub built-some : (b : Built) → HasBuilt text raw shape (length raw.nodes) b → 1 ≤ length b.nodes
    built-some b built = let e = ap length (all-parents b built) in omega (arith, e, length-map b.nodes (λ (n : Node). n.parent), length-map raw.nodes (λ (n : RawNode). n.parent), some)

    -- the tree
    pub tree-built : (b : Built) (info : Information) (tree : Tree) → HasBuilt text raw shape (length raw.nodes) b → IsInformationIn text root.pairs info → tree ≡ tree_of b info → IsTreeOf text raw tree
    tree-built b info tree built told_info e = subst (IsTreeOf text raw) (sym e) (record {
      board = subst (IsBoard text raw) (sym built.shape_is) board;
      info = record {
        black = from (codes "PB") told_info.black;
        white = from (codes "PW") told_info.white;
        event = from (codes "EV") told_info.event;
        place = from (codes "PC") told_info.place;
        date = from (codes "DT") told_info.date;
        outcome_text = from (codes "RE") told_info.outcome_text;
      };
      nodes = subst (λ s. AllZip (IsNodeOf text s) raw.nodes b.nodes) (sym built.shape_is) (subst (λ ns. AllZip (IsNodeOf text shape) ns b.nodes) (take_all (length raw.nodes) raw.nodes (omega arith)) built.nodes);
    })
      where
        from : (name : List ℕ) {simple : List ℕ} → IsTextOf text (roots.first_in text root.pairs name) simple → IsTextOf text (roots.first_in text (root_pairs raw) name) simple
        from name {simple = simple} h = subst (λ ps. IsTextOf text (roots.first_in text ps name) simple) (sym root-values) h

-- the texts of an information have no control characters
simple : (text : List ℕ) (found : Option Pair) (out : List ℕ) → IsTextOf text found out → HasNoControls out
simple text _ _ told.no_value = λ k d below. absurd (omega arith)
simple text _ out (told.value {pair = pair} read) = simple_text-no_controls _ out read

pub simple-texts : (text : List ℕ) (pairs : List Pair) (info : Information) → IsInformationIn text pairs info → HasSimpleTexts info
simple-texts text pairs info h = record {
  black = simple text _ info.black h.black;
  white = simple text _ info.white h.white;
  event = simple text _ info.event h.event;
  place = simple text _ info.place h.place;
  date = simple text _ info.date h.date;
  outcome_text = simple text _ info.outcome_text h.outcome_text;
}

-- a fault that is handed on
pub handed-on : (text : List ℕ) (raw : RawGame) (answer f : SgfFault) → IsFirstGameFault text raw answer.kind answer.at → Fault answer ≡ Fault f → IsFirstGameFault text raw f.kind f.at
handed-on text raw answer f first e = let same : answer ≡ f = cc in subst (λ (r : SgfFault). IsFirstGameFault text raw r.kind r.at) same first
