-- What the stored nodes say of the tree that is being built.
use Prim.Native.Nat.{zero}
use Rattle.std.proofs.Common.{◌≡◌, ◌≢◌, ℕ, ◌<◌, suc, List, length, Some, refl, sym, ◌∙◌, ap, subst, arith}
use Rattle.std.specs.Prelude.{All}
use Rattle.kb_geometry.specs.declared.shape.Shape.{Shape}
use Rattle.game_tree.specs.declared.node.Setup.{Setup}
use Rattle.game_tree.specs.declared.stored.TreeNode.{TreeNode}
use Rattle.game_tree.specs.Built.{Built, IsGrown, tree_so_far}
use Rattle.game_tree.specs.Information.{no_information}
use Rattle.game_tree.specs.Tree.{Node, node_at, parent_of}
use Rattle.kb_geometry.specs.Board.{IsOrderedRectOnBoard}
use Rattle.game_tree.specs.Stored.{tree_node, shown_node, shown_built, IsBeginning, AreLinks}
use Rattle.game_tree.proofs.StoredTrees.{length-shown, node_at-shown}

module _ (shape : Shape) (ts : List TreeNode) (setups : List Setup) (main : ℕ) (b : Built) (shown : shown_built shape ts setups ≡ b) (begun : IsBeginning shape ts setups main) where
  pub grown_built : IsGrown (tree_so_far b)
  grown_built = subst (λ (c : Built). IsGrown (tree_so_far c)) shown begun.grown

  pub links_built : AreLinks (tree_so_far b) ts main
  links_built = subst (λ (c : Built). AreLinks (tree_so_far c) ts main) shown begun.links

  pub count_built : length b.nodes ≡ length ts
  count_built = sym (ap (λ (c : Built). length c.nodes) shown) ∙ length-shown ts setups

  pub node_built : (n : ℕ) → n < length b.nodes → node_at (tree_so_far b) n ≡ shown_node ts setups n
  node_built n h = sym (ap (λ (c : Built). node_at (tree_so_far c) n) shown) ∙ node_at-shown shape no_information ts setups n (omega (arith, count_built))

  pub parent_built : (n : ℕ) → n ≢ 0 → n < length b.nodes → parent_of (tree_so_far b) n ≡ Some (tree_node ts n).parent
  parent_built zero ne h = absurd (ne refl)
  parent_built (suc n) ne h = ap (λ (d : Node). d.parent) (node_built (suc n) h)

  pub played_built : (n : ℕ) → n < length b.nodes → (node_at (tree_so_far b) n).played ≡ (tree_node ts n).played
  played_built n h = ap (λ (d : Node). d.played) (node_built n h)

  pub pending_built : All (λ (s : Setup). IsOrderedRectOnBoard b.shape s.rect) b.pending
  pending_built = subst (λ (c : Built). All (λ (s : Setup). IsOrderedRectOnBoard c.shape s.rect) c.pending) shown begun.pending
