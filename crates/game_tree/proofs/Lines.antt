-- A game of one line of moves, built node by node.
use Prim.Native.Nat.{zero}
use Rattle.std.proofs.Common.{◌≡◌, inl, inr, All, IfSome, ℕ, ◌+◌, ◌-◌, ◌<◌, suc, List, [], ◌∷◌, ◌++◌, Some, None, length, map, refl, sym, ◌∙◌, ap, subst, arith, get_or}
use Rattle.std.proofs.lemmas.List.FromFn.{get_or-map-range_with_len, length-map-range_with_len, map-range_with_len_more}
use Rattle.std.proofs.lemmas.List.Elements.{All-nil}
use Rattle.std.proofs.lemmas.Option.{slice_get-get_or, slice_get_cases}
use Rattle.std.specs.List.{range_with_len}
use Rattle.std.specs.Prelude.{slice_get}
use Rattle.node_paths.specs.Parents.{IsOnPathTo, MayHaveParent, itself}
use Rattle.kb_geometry.specs.Board.{IsOnBoard, IsOrderedRectOnBoard}
use Rattle.kb_geometry.specs.declared.shape.Point.{Point}
use Rattle.kb_geometry.specs.declared.shape.Shape.{Shape}
use Rattle.game_tree.specs.declared.node.Move.{Move}
use Rattle.game_tree.specs.declared.node.Setup.{Setup}
use Rattle.game_tree.specs.Built.{Built, IsGrown, IsNextParent, tree_of, tree_so_far, with_node}
use Rattle.game_tree.specs.Information.{HasSimpleTexts, Information}
use Rattle.game_tree.specs.Line.{line_node, line_tree}
use Rattle.game_tree.specs.Stored.{IsMainEnd}
use Rattle.game_tree.specs.Tree.{IsNodeOnBoard, IsTree, Node, Tree, branchings_to, node_at, node_count, parent_of}
use Rattle.game_tree.proofs.Branchings.{branchings_to-line}
use Rattle.game_tree.proofs.Trees.{parent-past}

-- the first nodes of such a game
abbrev pub line_nodes : List Move → ℕ → List Node
line_nodes moves n = map (line_node moves) (range_with_len 0 n)

-- such a game with so many of its moves
abbrev pub line_built : Shape → List Move → ℕ → Built
line_built shape moves n = record {
  shape = shape;
  nodes = line_nodes moves (n + 1);
  pending = [];
  setup_count = 0;
}

module _ (shape : Shape) (moves : List Move) (n : ℕ) where
  pub line-length : length (line_nodes moves (n + 1)) ≡ n + 1
  line-length = length-map-range_with_len (line_node moves) 0 (n + 1)

  pub line-next : IsNextParent (line_built shape moves n) (Some n)
  line-next =
      let parent = parent_of (tree_so_far (line_built shape moves n)) in
      let here : n ≡ length (line_nodes moves (n + 1)) - 1 = omega (arith, line-length) in
      (omega (arith, line-length), subst (λ k. IsOnPathTo parent n k) here itself)

  pub line-more : (d : Move) → n < length moves → with_node (line_built shape moves n) (Some n) (Some (get_or moves n d)) ≡ line_built shape moves (n + 1)
  line-more d inside =
      let m = get_or moves n d in
      let at : slice_get moves n ≡ Some m = slice_get-get_or moves n d inside in
      let one : suc n ≡ n + 1 = omega arith in
      let node : line_node moves (n + 1) ≡ record { parent = Some n; setups = []; played = Some m } =
      ap (line_node moves) (sym one) ∙ ap (λ o. record { parent = Some n; setups = []; played = o }) at in
      let nodes : line_nodes moves (n + 1) ++ record { parent = Some n; setups = []; played = Some m } ∷ [] ≡ line_nodes moves (n + 1 + 1) =
      sym (map-range_with_len_more (line_node moves) 0 (n + 1) (n + 1) (omega arith) ∙ ap (λ (x : Node). line_nodes moves (n + 1) ++ x ∷ []) node) in
      ap (λ (ns : List Node). record { shape = shape; nodes = ns; pending = []; setup_count = 0 }) nodes

  line-parent : (k : ℕ) → k < n → parent_of (tree_so_far (line_built shape moves n)) (k + 1) ≡ Some k
  line-parent k h =
      let one : k + 1 ≡ suc k = omega arith in
      ap (λ (d : Node). d.parent) (get_or-map-range_with_len (line_node moves) 0 (n + 1) (k + 1) (k + 1) _ (omega arith) (omega arith) ∙ ap (line_node moves) one)

  line-main : IsMainEnd (tree_so_far (line_built shape moves n)) (n + 1)
  line-main = record {
    within = omega (arith, line-length);
    some = λ _. omega arith;
    line = λ k h. line-parent k (omega arith);
    ended = λ h. absurd (omega (arith, line-length));
  }

  -- its nodes have one child at most
  pub line-depth : (info : Information) → IsGrown (tree_so_far (line_built shape moves n)) → (k : ℕ) → branchings_to (tree_of (line_built shape moves n) info) k < 1024
  line-depth info grown k =
      let none : branchings_to (tree_so_far (line_built shape moves n)) k ≡ 0 = branchings_to-line _ grown (n + 1) line-main (sym line-length) k in
      let same : branchings_to (tree_of (line_built shape moves n) info) k ≡ branchings_to (tree_so_far (line_built shape moves n)) k = refl in
      omega (arith, none, same)

-- ---- such a game is a tree

-- the move lies on the board
abbrev pub LiesOn : Shape → Move → Type 0
LiesOn shape m = IfSome m.point (λ (p : Point). IsOnBoard shape p)

module _ (shape : Shape) (moves : List Move) (few : length moves < 65536) (on : All (LiesOn shape) moves) where
  line_so_far : Tree
  line_so_far = tree_so_far (line_built shape moves (length moves))

  node-is : (k : ℕ) → k < length moves + 1 → node_at line_so_far k ≡ line_node moves k
  unfolding line_so_far
  node-is k h = get_or-map-range_with_len (line_node moves) 0 (length moves + 1) k k _ h (omega arith)

  count-is : node_count line_so_far ≡ length moves + 1
  unfolding line_so_far
  count-is = line-length shape moves (length moves)

  may-have : (k : ℕ) → k < length moves + 1 → MayHaveParent (parent_of line_so_far) k (parent_of line_so_far k)
  may-have zero h =
      let none : parent_of line_so_far 0 ≡ None = ap (λ (d : Node). d.parent) (node-is 0 h) in
      subst (λ o. MayHaveParent (parent_of line_so_far) 0 o) (sym none) refl
  may-have (suc m) h =
      let above : parent_of line_so_far (suc m) ≡ Some m = ap (λ (d : Node). d.parent) (node-is (suc m) h) in
      let here : m ≡ suc m - 1 = omega arith in
      subst (λ o. MayHaveParent (parent_of line_so_far) (suc m) o) (sym above)
      (omega arith, subst (λ k. IsOnPathTo (parent_of line_so_far) m k) here itself)

  played-on : (m : ℕ) → IfSome (slice_get moves m) (LiesOn shape)
  played-on m = elim ((slice_get_cases moves m).1) [
    | inl (x, inside, some, read) ↦ subst (λ o. IfSome o (LiesOn shape)) (sym some) (subst (LiesOn shape) read (on m x inside))
    | inr (past, none) ↦ subst (λ o. IfSome o (LiesOn shape)) (sym none) tt
  ]

  node-on : (k : ℕ) → IsNodeOnBoard shape (line_node moves k)
  node-on zero = record { setups = All-nil (λ (s : Setup). IsOrderedRectOnBoard shape s.rect); played = tt }
  node-on (suc m) = record { setups = All-nil (λ (s : Setup). IsOrderedRectOnBoard shape s.rect); played = played-on m }

  line-grown : IsGrown line_so_far
  unfolding line_so_far
  line-grown = record {
    most = omega (arith, count-is, few);
    parents = record { each = λ k h. may-have k (omega (arith, h, count-is)); past = parent-past line_so_far };
    on_board = λ k h. subst (IsNodeOnBoard shape) (sym (node-is k (omega (arith, h, count-is)))) (node-on k);
  }

  pub line-is_tree : (info : Information) → HasSimpleTexts info → IsTree (line_tree shape info moves)
  unfolding line_so_far
  line-is_tree info texts = record {
    some = omega (arith, count-is);
    most = line-grown.most;
    parents = line-grown.parents;
    on_board = line-grown.on_board;
    depth = λ k h. line-depth shape moves (length moves) info line-grown k;
    texts = texts;
  }
