use Rattle.std.proofs.Common.{ℕ, ◌<◌, ◌≤◌, List, sym, subst, length}
use Rattle.game_tree.specs.Built.{Built, tree_of}
use Rattle.game_tree.specs.declared.node.Setup.{Setup}
use Rattle.game_tree.specs.declared.stored.TreeNode.{TreeNode}
use Rattle.game_tree.specs.Stored.{shown_built, IsStored}
use Rattle.game_tree.specs.Tree.{branchings_to}
use Rattle.game_tree.proofs.StoredTrees.{length-shown}
use Rattle.game_tree.proofs.StoredGrowth.{IsTree-info, AreLinks-info}
use Rattle.game_tree.proofs.builder.TreeBuilder.finish.Goals as goal

pub stored-requires : goal.stored-requires
stored-requires c =
    let b : Built = shown_built c.self.inside.shape c.self.inside.nodes.items c.self.inside.setups.items in
    let begun = c.self.invariant in
    let info = c.args.info in
    let ts = c.self.inside.nodes.items in
    let ss = c.self.inside.setups.items in
    let main = c.self.inside.main_line in
    let stored : IsStored c.self.inside.shape info ts ss main = record {
      tree =
          IsTree-info b info begun.grown
          (subst (λ (d : Built). 1 ≤ length d.nodes) (sym c.self.view_is) c.requires.some)
          (subst (λ (d : Built). (n : ℕ) → n < length d.nodes → branchings_to (tree_of d info) n < 1024) (sym c.self.view_is) c.requires.depth)
          c.requires.texts;
      ends = begun.ends;
      links = AreLinks-info b info begun.grown ts main (sym (length-shown ts ss)) begun.links;
    } in
    subst (λ (us : List TreeNode). IsStored c.self.inside.shape info us c.shrink_to_fit-2.new.self.items main) (sym c.shrink_to_fit.ensures.items)
    (subst (λ (us : List Setup). IsStored c.self.inside.shape info ts us main) (sym c.shrink_to_fit-2.ensures.items) stored)
