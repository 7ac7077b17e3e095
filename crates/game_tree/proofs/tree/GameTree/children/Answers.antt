use Rattle.std.proofs.Common.{◌≡◌, ℕ, ◌<◌, Some, ◌∙◌, ap}
use Rattle.std.proofs.lemmas.List.Elements.{All-same}
use Rattle.game_tree.specs.Stored.{siblings_from}
use Rattle.game_tree.specs.Tree.{node_count, parent_of, children_of}
use Rattle.game_tree.proofs.StoredTrees.{tree_shown}
use Rattle.game_tree.proofs.Trees.{IsGrown-tree, children-each, children-in_range, siblings_from-first}
use Rattle.game_tree.proofs.tree.GameTree.children.Goals as goal

pub returns-clause-value : goal.returns-clause-value
returns-clause-value c =
    c.of.ensures ∙ ap (siblings_from c.args.self.now) c.first_child.ensures.value ∙ siblings_from-first c.args.self.now c.args.n

pub returns-clause-in_range : goal.returns-clause-in_range
returns-clause-in_range c =
    All-same (λ (m : ℕ). (c.args.n < m) × (m < node_count c.args.self.now)) c.of.result (children_of c.args.self.now c.args.n) (returns-clause-value c)
    (children-in_range c.args.self.now (IsGrown-tree c.args.self.now (tree_shown _ _ _ _ _ _ c.self.view_is c.self.invariant)) c.args.n)

pub returns-clause-each : goal.returns-clause-each
returns-clause-each c =
    All-same (λ (m : ℕ). parent_of c.args.self.now m ≡ Some c.args.n) c.of.result (children_of c.args.self.now c.args.n) (returns-clause-value c)
    (children-each c.args.self.now c.args.n)
