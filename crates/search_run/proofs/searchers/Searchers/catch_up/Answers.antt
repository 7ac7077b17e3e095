use Rattle.kb_geometry.proofs.Prefixes.{prefix_trans}
use Rattle.search_run.proofs.searchers.Searchers.catch_up.Goals as goal

pub returns-clause-caught : goal.returns-clause-caught
returns-clause-caught g c = λ k d below. prefix_trans _ _ _ ((rw c.deref.ensures.value at c.learn_each.ensures.learned) k d below) c.in_ok-enter.ensures.learned
