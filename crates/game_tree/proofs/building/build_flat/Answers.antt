use Rattle.std.proofs.Common.{ap, Err, subst, sym, ◌+◌}
use Rattle.game_tree.proofs.NodeValues.{same_error}
use Rattle.game_tree.proofs.WholeCollections.{HasBuiltGames, HasBuiltGames-more, HasBuiltGames-start, built-all, game-bad}
use Rattle.game_tree.proofs.building.build_flat.Goals as goal

pub loop-number-init : goal.loop-number-init
loop-number-init c = subst (HasBuiltGames c.args.text.now c.args.collection.now 0) (sym c.in_ok-trees.ensures.items) (HasBuiltGames-start c.args.text.now c.args.collection.now c.requires)

pub returns-in-Err-clause-fault : goal.returns-in-Err-clause-fault
returns-in-Err-clause-fault c = λ f e.
    game-bad c.args.text.now c.args.collection.now c.requires c.loop-number.number c.game.result c.loop-number.trees.items f.kind f.at (rw c.game_count-number-end.ensures at c.loop-number-test.true) c.game.ensures c.loop-number.invariant (c.in-Err.ensures.fault f (ap Err (same_error _ _ e)))

pub loop-number-preserved : goal.loop-number-preserved
loop-number-preserved c = subst (HasBuiltGames c.args.text.now c.args.collection.now (c.loop-number.number + 1)) (sym c.in_ok-push-in-Ok.ensures.items)
    (HasBuiltGames-more c.args.text.now c.args.collection.now c.requires c.loop-number.number c.game.result c.loop-number.trees.items c.in-Ok.tree (rw c.game_count-number-end.ensures at c.loop-number-test.true) c.game.ensures c.loop-number.invariant c.in-Ok.ensures.ok c.in-Ok.ensures.no_fault)

pub returns-clause-ok : goal.returns-clause-ok
returns-clause-ok c = (built-all c.args.text.now c.args.collection.now c.requires c.loop-number.number c.loop-number.trees.items (rw c.game_count-number-end.ensures at c.loop-number-test.false) c.loop-number.invariant).0

pub returns-clause-no_fault : goal.returns-clause-no_fault
returns-clause-no_fault c = (built-all c.args.text.now c.args.collection.now c.requires c.loop-number.number c.loop-number.trees.items (rw c.game_count-number-end.ensures at c.loop-number-test.false) c.loop-number.invariant).1
