use Rattle.std.proofs.lemmas.Bool.{lt-ltb, ltb-true}
use Rattle.game_tree.proofs.StoredTrees.{main_shown}
use Rattle.game_tree.proofs.tree.GameTree.is_main.Goals as goal

pub returns : goal.returns
returns c =
    let both = main_shown _ _ _ _ _ _ c.self.view_is c.self.invariant c.args.n in
    (λ t. both.0 (ltb-true c.args.n c.self.inside.main_line t), λ on. lt-ltb c.args.n c.self.inside.main_line (both.1 on))
