-- A written text is read and built as its tree.
use Rattle.std.proofs.Common.{◌≡◌, ℕ, ◌+◌, ◌<◌, ◌≤◌, suc, List, [], ◌∷◌, ◌++◌, length, get_or, map, Option, Some, None, All, codes, refl, sym, ◌∙◌, ap, subst, arith, inl, inr}
use Rattle.std.proofs.lemmas.Bool.{cases_lt}
use Rattle.std.proofs.lemmas.List.{append-nil}
use Rattle.std.proofs.lemmas.List.Elements.{All-cons, All-contains, All-nil, All-weaker}
use Rattle.std.specs.List.{AllZip}
use Rattle.std.specs.Prelude.{Contains, IfSome}
use Rattle.node_paths.specs.Parents.{higher}
use Rattle.node_paths.proofs.Ancestors.{later-parent, root-parent}
use Rattle.kb_geometry.specs.declared.shape.Point.{Point}
use Rattle.kb_geometry.specs.declared.shape.Shape.{Shape}
use Rattle.kb_geometry.specs.Board.{IsOnBoard, cols_of, rows_of, IsOrderedRectOnBoard}
use Rattle.sgf_reader.specs.declared.collection.Pair.{Pair}
use Rattle.sgf_reader.specs.declared.collection.RawGame.{RawGame}
use Rattle.sgf_reader.specs.declared.collection.RawNode.{RawNode}
use Rattle.sgf_reader.specs.declared.fault.FaultKind.{FaultKind}
use Rattle.sgf_reader.specs.Limits.{most_bytes}
use Rattle.sgf_reader.specs.Faults.{AreWithinLimits}
use Rattle.sgf_reader.specs.Grammar.{HasGames, SpelledGame, SpelledNode, SpellsGames, raw_node}
use Rattle.sgf_reader.proofs.WithinLimits.{within_limits-no_fault}
use Rattle.game_tree.specs.declared.node.Move.{Move}
use Rattle.game_tree.specs.declared.node.Setup.{Setup}
use Rattle.game_tree.specs.Property.{IsTrimmed, bytes_of, first_pair}
use Rattle.game_tree.specs.Tree.{IsNodeOnBoard, IsTree, Node, Tree, node_at, node_count}
use Rattle.game_tree.specs.Trees.{AreSetups, IsNodeOf, IsPlayedBy, IsTreeOf}
use Rattle.game_tree.specs.ValueFaults.{HasValueFault, IsBoard, bad_move, bad_setup, bad_size, not_go, two_moves}
use Rattle.game_tree.proofs.Subtrees.{IsSubtree}
use Rattle.game_tree.proofs.Trimming.{IsTrimmed-only}
use Rattle.sgf_writer.specs.ReadBack.{IsReadBack}
use Rattle.sgf_writer.specs.Written.{AreWritten, IsWritten, IsWrittenFrom}
use Rattle.sgf_writer.proofs.Entries.{move_entries, root_entries, setup_entries}
use Rattle.sgf_writer.proofs.EntriesRead.{IsGoodMove, IsGoodSetup, moves-good, no_second, node-does, played-shown, setups-good, setups-shown}
use Rattle.sgf_writer.proofs.GrammarOf.{AreSpelled, IsSpelled, bracketed, grown, reads-from}
use Rattle.sgf_writer.proofs.RootRead.{black-read, board-only, board-read, date-read, event-read, game-read, place-read, result-read, white-read}
use Rattle.sgf_writer.proofs.Spelling.{entry_of}
use Rattle.sgf_writer.proofs.Standing.{Stands-back, Stands-front, Stands-whole}
use Rattle.sgf_writer.proofs.SubtreeEnds.{branchings_above, branchings_above-root}
use Rattle.sgf_writer.proofs.ValuesRead.{trimmed-itself}

-- ---- nodes on a board of the same size

target-on : (shape other : Shape) → cols_of other ≡ cols_of shape → rows_of other ≡ rows_of shape → (target : Option Point) → IfSome target (λ (p : Point). IsOnBoard shape p) → IfSome target (λ (p : Point). IsOnBoard other p)
target-on shape other c r None on = tt
target-on shape other c r (Some p) on = (omega (arith, on.0, c), omega (arith, on.1, r))

played-on : (shape other : Shape) → cols_of other ≡ cols_of shape → rows_of other ≡ rows_of shape → (played : Option Move) → IfSome played (λ (m : Move). IfSome m.point (λ (p : Point). IsOnBoard shape p)) → IfSome played (λ (m : Move). IfSome m.point (λ (p : Point). IsOnBoard other p))
played-on shape other c r None on = tt
played-on shape other c r (Some m) on = target-on shape other c r m.point on

node-on : (shape other : Shape) → cols_of other ≡ cols_of shape → rows_of other ≡ rows_of shape → (node : Node) → IsNodeOnBoard shape node → IsNodeOnBoard other node
node-on shape other c r node on = record {
  setups = All-weaker (λ (s : Setup). IsOrderedRectOnBoard shape s.rect) (λ (s : Setup). IsOrderedRectOnBoard other s.rect) (λ s h. (h.0, h.1, omega (arith, h.2, c), omega (arith, h.3, r))) node.setups on.setups;
  played = played-on shape other c r node.played on.played;
}

-- ---- each node is built as it is

node-built : (whole : List ℕ) (shape : Shape) (tree : Tree) (n : ℕ) (node : SpelledNode) → IsNodeOnBoard shape (node_at tree n) → IsSpelled whole tree n node → IsNodeOf whole shape (raw_node node) (node_at tree n)
node-built whole shape tree n node on is = record {
  parent = sym is.parent;
  setups = setups-shown whole shape _ _ _ (node-does shape tree n on) node.pairs is.shown;
  played = played-shown whole shape _ _ _ (node-does shape tree n on) node.pairs is.shown;
}

nodes-built : (whole : List ℕ) (tree : Tree) → ((n : ℕ) → n < node_count tree → IsNodeOnBoard tree.shape (node_at tree n)) → (empty : Node) (n : ℕ) (nodes : List SpelledNode) (ns : List Node) → length nodes ≡ length ns → n + length ns ≤ node_count tree → ((k : ℕ) → k < length ns → node_at tree (n + k) ≡ get_or ns k empty) → AreSpelled whole tree n nodes → AllZip (IsNodeOf whole tree.shape) (map raw_node nodes) ns
nodes-built whole tree on empty n [] [] e within each spelled = tt
nodes-built whole tree on empty n [] (m ∷ ns) e within each spelled = absurd (omega (arith, e))
nodes-built whole tree on empty n (x ∷ nodes) [] e within each spelled = absurd (omega (arith, e))
nodes-built whole tree on empty n (x ∷ nodes) (m ∷ ns) e within each spelled =
    let start : n + 0 ≡ n = omega arith in
    let here : node_at tree n ≡ m = ap (node_at tree) (sym start) ∙ each 0 (omega arith) in
    let later = λ (k : ℕ) (h : k < length ns). (let place : n + 1 + k ≡ n + suc k = omega arith in ap (node_at tree) place ∙ each (suc k) (omega arith)) in (
      subst (λ (i : Node). IsNodeOf whole tree.shape (raw_node x) i) here (node-built whole tree.shape tree n x (on n (omega arith)) spelled.0),
      nodes-built whole tree on empty (n + 1) nodes ns (omega (arith, e)) (omega (arith, within)) later spelled.1,
    )

-- ---- no value is at fault

-- what the values of a node set up and play is known
record IsGoodNode (whole : List ℕ) (shape : Shape) (raw : RawNode) : Type 0 where
  pub setups : List Setup
  pub played : Option Move
  pub set : AreSetups whole shape raw.pairs setups
  pub plays : IsPlayedBy whole shape raw.pairs played

nodes-good : (whole : List ℕ) (shape : Shape) (tree : Tree) → ((n : ℕ) → n < node_count tree → IsNodeOnBoard shape (node_at tree n)) → (n : ℕ) (nodes : List SpelledNode) → n + length nodes ≤ node_count tree → AreSpelled whole tree n nodes → All (IsGoodNode whole shape) (map raw_node nodes)
nodes-good whole shape tree on n [] within spelled = All-nil (IsGoodNode whole shape)
nodes-good whole shape tree on n (x ∷ nodes) within spelled =
    let built = node-built whole shape tree n x (on n (omega (arith, within))) spelled.0 in
    All-cons (IsGoodNode whole shape) (raw_node x) (map raw_node nodes) (record { setups = (node_at tree n).setups; played = (node_at tree n).played; set = built.setups; plays = built.played })
    (nodes-good whole shape tree on (n + 1) nodes (omega (arith, within)) spelled.1)

module _ (whole : List ℕ) (tree : Tree) (is_tree : IsTree tree) (root : SpelledNode) (others : List SpelledNode) (spelled : AreSpelled whole tree 0 (root ∷ others)) (count : length (root ∷ others) ≡ node_count tree) where
  abbrev nodes : List SpelledNode
  nodes = root ∷ others

  abbrev raw : RawGame
  raw = record { nodes = map raw_node (root ∷ others) }

  same : map (entry_of whole) root.pairs ≡ root_entries tree.shape tree.info (setup_entries (node_at tree 0).setups ++ move_entries (node_at tree 0).played)
  same = spelled.0.shown

  board : IsBoard whole (record { nodes = map raw_node (root ∷ others) }) tree.shape
  board = board-read tree.shape tree.info (node_at tree 0).setups (node_at tree 0).played whole root.pairs same

  only_board : (other : Shape) → IsBoard whole (record { nodes = map raw_node (root ∷ others) }) other → (cols_of other ≡ cols_of tree.shape) × (rows_of other ≡ rows_of tree.shape)
  only_board other b = board-only tree.shape tree.info (node_at tree 0).setups (node_at tree 0).played whole root.pairs same other b

  good : (other : Shape) → IsBoard whole (record { nodes = map raw_node (root ∷ others) }) other → All (IsGoodNode whole other) (map raw_node (root ∷ others))
  good other b =
      let size = only_board other b in
      nodes-good whole other tree (λ n h. node-on tree.shape other size.0 size.1 (node_at tree n) (is_tree.on_board n h)) 0 (root ∷ others) (omega (arith, count)) spelled

  one_game : (r : RawGame) → Contains (raw ∷ []) r → r ≡ record { nodes = map raw_node (root ∷ others) }
  one_game r c = All-contains (λ (x : RawGame). x ≡ raw) (raw ∷ []) r (All-cons (λ (x : RawGame). x ≡ raw) raw [] refl (All-nil (λ (x : RawGame). x ≡ raw))) c

  good_node : (r : RawGame) (node : RawNode) (other : Shape) → Contains (raw ∷ []) r → Contains r.nodes node → IsBoard whole r other → IsGoodNode whole other node
  good_node r node other c d b =
      let e = one_game r c in
      All-contains (IsGoodNode whole other) (map raw_node (root ∷ others)) node (good other (subst (λ (x : RawGame). IsBoard whole x other) e b)) (subst (λ (x : RawGame). Contains x.nodes node) e d)

  no_value_fault : (of : FaultKind) (at : ℕ) → HasValueFault whole (record { games = raw ∷ [] }) of at → ⊥
  no_value_fault of at (not_go {raw = r} pair inner c f trimmed some not_one) =
      let e = one_game r c in
      let found = game-read tree.shape tree.info (node_at tree 0).setups (node_at tree 0).played whole root.pairs same in
      let first : Some found.0 ≡ Some pair = sym found.1 ∙ ap (λ (x : RawGame). first_pair whole x (codes "GM")) (sym e) ∙ f in
      let pairs_same : found.0 ≡ pair = cc in
      let value : bytes_of whole pair.value ≡ codes "1" = ap (λ (x : Pair). bytes_of whole x.value) (sym pairs_same) ∙ found.2 in
      let dark : IsTrimmed (codes "1") (codes "1") = trimmed-itself (codes "1") (All-cons (λ (b : ℕ). 32 < b) 49 [] (omega arith) (All-nil (λ (b : ℕ). 32 < b))) in
      not_one (IsTrimmed-only (codes "1") inner (codes "1") (subst (λ (t : List ℕ). IsTrimmed t inner) value trimmed) dark)
  no_value_fault of at (bad_size {raw = r} pair c f bad) = bad tree.shape (subst (λ (x : RawGame). IsBoard whole x tree.shape) (sym (one_game r c)) board)
  no_value_fault of at (bad_move {raw = r} {node = node} pair other c d p b m bad) =
      let g = good_node r node other c d b in
      let read = All-contains (IsGoodMove whole other) node.pairs pair (moves-good whole other node.pairs g.played g.plays) p m in
      bad read.0 read.1
  no_value_fault of at (bad_setup {raw = r} {node = node} pair other c d p b s bad) =
      let g = good_node r node other c d b in
      let read = All-contains (IsGoodSetup whole other) node.pairs pair (setups-good whole other node.pairs g.setups g.set) p s in
      bad read.0 read.1
  no_value_fault of at (two_moves {raw = r} {node = node} pair before after c d split m one) =
      let g = good_node r node tree.shape c d (subst (λ (x : RawGame). IsBoard whole x tree.shape) (sym (one_game r c)) board) in
      absurd (omega (arith, one, no_second whole tree.shape node.pairs g.played g.plays pair before after split m))

  tree_built : IsTreeOf whole (record { nodes = map raw_node (root ∷ others) }) tree
  tree_built =
      let i = tree.info in
      let s = (node_at tree 0).setups in
      let m = (node_at tree 0).played in
      record {
        board = board;
        info = record {
          black = black-read tree.shape i s m whole root.pairs same is_tree.texts.black;
          white = white-read tree.shape i s m whole root.pairs same is_tree.texts.white;
          event = event-read tree.shape i s m whole root.pairs same is_tree.texts.event;
          place = place-read tree.shape i s m whole root.pairs same is_tree.texts.place;
          date = date-read tree.shape i s m whole root.pairs same is_tree.texts.date;
          outcome_text = result-read tree.shape i s m whole root.pairs same is_tree.texts.outcome_text;
        };
        nodes = nodes-built whole tree is_tree.on_board (record { parent = None; setups = []; played = None }) 0 (root ∷ others) tree.nodes count (omega arith) (λ k h. let e : 0 + k ≡ k = omega arith in ap (node_at tree) e) spelled;
      }

  -- ---- the limits

  depths : (n : ℕ) (xs : List SpelledNode) → AreSpelled whole tree n xs → All (λ (x : SpelledNode). x.depth ≤ 1024) xs
  depths n [] spelled = All-nil (λ (x : SpelledNode). x.depth ≤ 1024)
  depths n (x ∷ xs) spelled = All-cons (λ (x : SpelledNode). x.depth ≤ 1024) x xs spelled.0.depth (depths (n + 1) xs spelled.1)

  one_spelled : (game : SpelledGame) → (g : SpelledGame) → Contains (game ∷ []) g → g ≡ game
  one_spelled game g c = All-contains (λ (x : SpelledGame). x ≡ game) (game ∷ []) g (All-cons (λ (x : SpelledGame). x ≡ game) game [] refl (All-nil (λ (x : SpelledGame). x ≡ game))) c

  within : AreWithinLimits (record { at = 0; nodes = root ∷ others } ∷ [])
  within = record {
    few = omega arith;
    nodes = λ g c. let e = one_spelled (record { at = 0; nodes = root ∷ others }) g c in omega (arith, ap (λ (x : SpelledGame). length x.nodes) e, count, is_tree.most);
    depths = λ g c node d.
        let e = one_spelled (record { at = 0; nodes = root ∷ others }) g c in
        All-contains (λ (x : SpelledNode). x.depth ≤ 1024) (root ∷ others) node (depths 0 (root ∷ others) spelled) (subst (λ (x : SpelledGame). Contains x.nodes node) e d);
  }

  pub read_back : HasGames 0 whole (record { at = 0; nodes = root ∷ others } ∷ []) → length whole ≤ most_bytes → IsReadBack whole tree
  read_back games short =
      let spells : SpellsGames (record { at = 0; nodes = root ∷ others } ∷ []) whole = (games, omega arith) in
      record {
        collection = record { games = raw ∷ [] };
        read = (record { at = 0; nodes = root ∷ others } ∷ [], within_limits-no_fault _ whole spells short within, refl);
        no_fault = no_value_fault;
        built = (tree_built, tt);
      }

-- ---- from the written text

-- the root's subtree is the whole tree
root_end : (tree : Tree) → IsTree tree → (end : ℕ) → IsSubtree tree 0 end → end ≡ node_count tree
root_end tree is_tree end sub =
    elim (cases_lt end (node_count tree)) [
      | inl l ↦
          let p = later-parent is_tree.parents end sub.later l in
          absurd (omega (arith, sub.only end l (higher p.1 (sub.inside p.0 (omega arith) p.2))))
      | inr h ↦ let e : end ≡ node_count tree = omega (arith, sub.within) in e
    ]

from_nodes : (whole : List ℕ) (tree : Tree) → IsTree tree → (nodes : List SpelledNode) → 1 ≤ length nodes → AreSpelled whole tree 0 nodes → length nodes ≡ node_count tree → HasGames 0 whole (record { at = 0; nodes = nodes } ∷ []) → length whole ≤ most_bytes → IsReadBack whole tree
from_nodes whole tree is_tree [] some spelled count games short = absurd (omega arith)
from_nodes whole tree is_tree (root ∷ others) some spelled count games short = read_back whole tree is_tree root others spelled count games short

from_text : (tree : Tree) → IsTree tree → (text : List ℕ) → IsWrittenFrom tree 0 text → length (40 ∷ (text ++ 41 ∷ [])) ≤ most_bytes → IsReadBack (40 ∷ (text ++ 41 ∷ [])) tree
from_text tree is_tree text from short =
    let whole : List ℕ = 40 ∷ (text ++ 41 ∷ []) in
    let stands = Stands-front text (41 ∷ []) (Stands-back (40 ∷ []) (text ++ 41 ∷ []) (Stands-whole (40 ∷ (text ++ 41 ∷ [])))) in
    let above : 1 ≡ suc (branchings_above tree (grown whole tree is_tree) 0) = omega (arith, branchings_above-root tree (grown whole tree is_tree) 0 (root-parent is_tree.parents)) in
    let r = reads-from (40 ∷ (text ++ 41 ∷ [])) tree is_tree 0 text from 1 1 (Some 0) None stands (omega (arith, is_tree.some)) (sym (root-parent is_tree.parents)) above in
    let one = bracketed (40 ∷ (text ++ 41 ∷ [])) tree is_tree None 0 0 0 text r in
    let count : length (r.nodes ++ r.inside) ≡ node_count tree = omega (arith, root_end tree is_tree _ r.subtree) in
    let games : HasGames 0 ((40 ∷ (text ++ 41 ∷ [])) ++ []) (record { at = 0; nodes = r.nodes ++ r.inside } ∷ []) = HasGames.with_game (40 ∷ (text ++ 41 ∷ [])) [] one HasGames.end in
    from_nodes (40 ∷ (text ++ 41 ∷ [])) tree is_tree (r.nodes ++ r.inside) (omega (arith, count, is_tree.some)) r.spelled count
    (subst (λ (t : List ℕ). HasGames 0 t (record { at = 0; nodes = r.nodes ++ r.inside } ∷ [])) (append-nil (40 ∷ (text ++ 41 ∷ []))) games) short

-- the text of a tree is read and built as this tree
pub written-read_back : (tree : Tree) → IsTree tree → (text : List ℕ) → IsWritten tree text → length text ≤ most_bytes → IsReadBack text tree
written-read_back tree is_tree text written short = go (0 ∷ []) text written refl short
  where
    nothing_more : (ns : List ℕ) (text : List ℕ) → AreWritten tree ns text → ns ≡ [] → text ≡ []
    nothing_more ns text AreWritten.none e = refl
    nothing_more ns text (AreWritten.one_more first rest from more) e = absurd cc

    go : (ns : List ℕ) (text : List ℕ) → AreWritten tree ns text → ns ≡ 0 ∷ [] → length text ≤ most_bytes → IsReadBack text tree
    go ns text AreWritten.none e short = absurd cc
    go ns text (AreWritten.one_more {n = n} {others = others} first rest from more) e short =
        let root : n ≡ 0 = cc in
        let none : others ≡ [] = cc in
        let same : 40 ∷ (first ++ 41 ∷ rest) ≡ 40 ∷ (first ++ 41 ∷ []) = ap (λ t. 40 ∷ (first ++ 41 ∷ t)) (nothing_more others rest more none) in
        subst (λ (t : List ℕ). IsReadBack t tree) (sym same) (from_text tree is_tree first (subst (λ (i : ℕ). IsWrittenFrom tree i first) root from) (omega (arith, ap length same)))
