use Rattle.std.proofs.Common.{arith}
use Rattle.game_tree.proofs.StoredTrees.{count_shown, tree_shown}
use Rattle.game_tree.proofs.tree.GameTree.node_count.Goals as goal

pub overflow_cast-result : goal.overflow_cast-result
overflow_cast-result c =
    let t = tree_shown _ _ _ _ _ _ c.self.view_is c.self.invariant in
    omega (arith, c.len.ensures, c.self.inside.nodes.ok.0, count_shown _ _ _ _ _ _ c.self.view_is c.self.invariant, t.most)

pub returns-clause-value : goal.returns-clause-value
returns-clause-value c = omega (arith, c.len.ensures, c.self.inside.nodes.ok.0, count_shown _ _ _ _ _ _ c.self.view_is c.self.invariant)

pub returns-clause-most : goal.returns-clause-most
returns-clause-most c =
    let t = tree_shown _ _ _ _ _ _ c.self.view_is c.self.invariant in
    omega (arith, c.len.ensures, c.self.inside.nodes.ok.0, count_shown _ _ _ _ _ _ c.self.view_is c.self.invariant, t.most)
