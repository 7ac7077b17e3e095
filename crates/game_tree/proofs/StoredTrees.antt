-- What the stored nodes say of the tree that they show.
use Prim.Native.Nat.{zero}
use Rattle.std.proofs.Common.{◌≡◌, ◌≢◌, ℕ, ◌+◌, ◌<◌, ◌≤◌, ◌↔◌, suc, Bool, true, false, List, length, get_or, Option, Some, None, refl, sym, ◌∙◌, ap, subst, arith, inl, inr}
use Rattle.std.proofs.lemmas.List.{get_or_read}
use Rattle.std.proofs.lemmas.List.FromFn.{length-map-range_with_len, get_or-map-range_with_len}
use mir.Val.{bool_byte}
use Rattle.std.specs.Prelude.{is_some, All, IfSome}
use Rattle.std.specs.List.{between}
use Rattle.node_paths.proofs.Ancestors.{cases_Option, root-parent}
use Rattle.kb_geometry.specs.declared.shape.Shape.{Shape}
use Rattle.kb_geometry.specs.declared.shape.Point.{Point}
use Rattle.kb_geometry.specs.Board.{IsOnBoard, IsOrderedRectOnBoard}
use Rattle.game_tree.specs.declared.node.Move.{Move}
use Rattle.game_tree.specs.declared.node.Setup.{Setup}
use Rattle.game_tree.specs.declared.stored.TreeNode.{TreeNode}
use Rattle.game_tree.specs.Information.{Information}
use Rattle.game_tree.specs.MainLine.{IsOnMainLine}
use Rattle.game_tree.specs.Tree.{Tree, Node, IsTree, node_count, node_at, parent_of, first_child_of, next_sibling_of, move_number_of}
use Rattle.kb_geometry.specs.Counts.{one_if}
use Rattle.game_tree.specs.Stored.{tree_node, setups_start, shown_node, shown_nodes, shown_tree, or_zero, IsStored, AreLinks}
use Rattle.game_tree.proofs.MainLines.{IsOnMainLine-below}
use Rattle.game_tree.proofs.Trees.{IsGrown-tree, parent-in_range, first_child-behind, first_child-none, next_sibling-facts}

-- ---- lists of nodes

pub length-shown : (ts : List TreeNode) (setups : List Setup) → length (shown_nodes ts setups) ≡ length ts
length-shown ts setups = length-map-range_with_len (shown_node ts setups) 0 (length ts)

pub node_at-shown : (shape : Shape) (info : Information) (ts : List TreeNode) (setups : List Setup) (n : ℕ) → n < length ts → node_at (shown_tree shape info ts setups) n ≡ shown_node ts setups n
node_at-shown shape info ts setups n h = get_or-map-range_with_len (shown_node ts setups) 0 (length ts) n n _ h (omega arith)

-- a node that was read is the stored one
pub node_read : (ts : List TreeNode) (n : ℕ) (t : TreeNode) → n < length ts → t ≡ get_or ts n t → t ≡ tree_node ts n
node_read ts n t h e = get_or_read ts n t h e _

pub bool_byte-one_if : (b : Bool) → ◌≡◌ {A = ℕ} (bool_byte b) (one_if b)
bool_byte-one_if true = refl
bool_byte-one_if false = refl

or_zero-some : (o : Option ℕ) (s : ℕ) → s ≡ or_zero o → s ≢ 0 → o ≡ Some s
or_zero-some None s e ne = absurd (ne e)
or_zero-some (Some n) s e ne = ap (λ i. Some i) (sym e)

-- ---- the tree that is shown

module _ (shape : Shape) (info : Information) (ts : List TreeNode) (setups : List Setup) (main : ℕ) (tree : Tree) (shown : shown_tree shape info ts setups ≡ tree) (stored : IsStored shape info ts setups main) where
  pub tree_shown : IsTree tree
  tree_shown = subst (λ (t : Tree). IsTree t) shown stored.tree

  links_shown : AreLinks tree ts main
  links_shown = subst (λ (t : Tree). AreLinks t ts main) shown stored.links

  pub count_shown : node_count tree ≡ length ts
  count_shown = sym (ap node_count shown) ∙ length-shown ts setups

  pub within_shown : (n : ℕ) → n < node_count tree → n < length ts
  within_shown n h = omega (arith, count_shown)

  pub node_shown : (n : ℕ) → n < node_count tree → node_at tree n ≡ shown_node ts setups n
  node_shown n h = sym (ap (λ t. node_at t n) shown) ∙ node_at-shown shape info ts setups n (within_shown n h)

  pub parent_shown : (n : ℕ) → n ≢ 0 → n < node_count tree → Some (tree_node ts n).parent ≡ parent_of tree n
  parent_shown zero ne h = absurd (ne refl)
  parent_shown (suc n) ne h = sym (ap (λ (d : Node). d.parent) (node_shown (suc n) h))

  pub root_shown : (n : ℕ) → n ≡ 0 → None ≡ parent_of tree n
  root_shown n e = sym (ap (parent_of tree) e ∙ root-parent tree_shown.parents)

  pub first_child_shown : (n c : ℕ) → c ≡ n + 1 → c < length ts → (tree_node ts c).parent ≡ n → parent_of tree (n + 1) ≡ Some n
  first_child_shown n c is h e =
      sym (ap (parent_of tree) is) ∙ sym (parent_shown c (omega arith) (omega (arith, count_shown))) ∙ ap (λ i. Some i) e

  pub first_child_is : (n : ℕ) → parent_of tree (n + 1) ≡ Some n → Some (n + 1) ≡ first_child_of tree n
  first_child_is n e = sym (first_child-behind tree (IsGrown-tree tree tree_shown) n e)

  -- the node behind is another's child
  pub other_child_shown : (n : ℕ) → n + 1 < length ts → (tree_node ts (n + 1)).parent ≢ n → None ≡ first_child_of tree n
  other_child_shown n h ne = sym (first_child-none tree (IsGrown-tree tree tree_shown) n (λ e.
      let f : Some (tree_node ts (n + 1)).parent ≡ Some n = parent_shown (n + 1) (omega arith) (omega (arith, count_shown)) ∙ e in ne cc))

  -- there is no node behind
  pub last_node_shown : (n : ℕ) → length ts ≤ n + 1 → None ≡ first_child_of tree n
  last_node_shown n h = sym (first_child-none tree (IsGrown-tree tree tree_shown) n (λ e. absurd (omega (arith, count_shown, parent-in_range tree (n + 1) n e))))

  pub next_sibling_shown : (n s : ℕ) → n < node_count tree → (tree_node ts n).next_sibling ≡ s → s ≢ 0 → Some s ≡ next_sibling_of tree n
  next_sibling_shown n s h e ne = sym (or_zero-some (next_sibling_of tree n) s (sym e ∙ links_shown.siblings n (within_shown n h)) ne)

  pub no_sibling_shown : (n : ℕ) → n < node_count tree → (tree_node ts n).next_sibling ≡ 0 → None ≡ next_sibling_of tree n
  no_sibling_shown n h e =
      elim (cases_Option (next_sibling_of tree n)) [
        | inl none ↦ sym none
        | inr p ↦
            let zero_is : or_zero (next_sibling_of tree n) ≡ p.0 = ap or_zero p.1 in
            absurd (omega (arith, zero_is, next_sibling-facts tree n p.0 p.1, links_shown.siblings n (within_shown n h)))
      ]

  pub setups_shown : (n : ℕ) → n < node_count tree → between (setups_start ts n) (tree_node ts n).setups_end setups ≡ (node_at tree n).setups
  setups_shown n h = sym (ap (λ (d : Node). d.setups) (node_shown n h))

  pub setups_on_board : (n : ℕ) (found : List Setup) → n < node_count tree → found ≡ (node_at tree n).setups → All (λ (s : Setup). IsOrderedRectOnBoard tree.shape s.rect) found
  setups_on_board n found h e = subst (λ (ss : List Setup). All (λ (s : Setup). IsOrderedRectOnBoard tree.shape s.rect) ss) (sym e) (tree_shown.on_board n h).setups

  pub played_shown : (n : ℕ) → n < node_count tree → (tree_node ts n).played ≡ (node_at tree n).played
  played_shown n h = sym (ap (λ (d : Node). d.played) (node_shown n h))

  pub played_on_board : (n : ℕ) (found : Option Move) → n < node_count tree → found ≡ (node_at tree n).played → IfSome found (λ (m : Move). IfSome m.point (λ (p : Point). IsOnBoard tree.shape p))
  played_on_board n found h e = subst (λ (o : Option Move). IfSome o (λ (m : Move). IfSome m.point (λ (p : Point). IsOnBoard tree.shape p))) (sym e) (tree_shown.on_board n h).played

  pub move_number_shown : (n : ℕ) → n < node_count tree → (tree_node ts n).moves_above + one_if (is_some (tree_node ts n).played) ≡ move_number_of tree n
  move_number_shown n h = links_shown.moves n (within_shown n h)

  pub main_shown : (n : ℕ) → (n < main) ↔ IsOnMainLine tree n
  main_shown n = IsOnMainLine-below tree (IsGrown-tree tree tree_shown) main links_shown.main_end tree_shown.some n
