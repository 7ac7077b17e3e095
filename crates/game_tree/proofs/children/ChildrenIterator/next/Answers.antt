use Rattle.std.proofs.Common.{rules, sym, ◌∙◌, ap, ◌∷◌}
use Rattle.game_tree.specs.Stored.{siblings_from}
use Rattle.game_tree.proofs.Trees.{siblings_from-next}
use Rattle.game_tree.proofs.children.ChildrenIterator.next.Goals as goal

pub returns-clause-steps : goal.returns-clause-steps
returns-clause-steps c =
    sym c.self.view_is
    ∙ ap (siblings_from c.self.inside.tree.now) c.in_ok-here.was
    ∙ siblings_from-next c.self.inside.tree.now c.in_ok-here.here
    ∙ ap (λ o. c.in_ok-here.here ∷ siblings_from c.self.inside.tree.now o) (sym c.next_sibling-self-inside.ensures.value)

pub returns-clause-goes : goal.returns-clause-goes
returns-clause-goes c = rw (returns-clause-steps c) (search rules)
