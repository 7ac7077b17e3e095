use Rattle.std.proofs.Common.{ap, Err}
use Rattle.game_tree.proofs.BuiltGames.{root_bad-game, root_bad-value}
use Rattle.game_tree.proofs.NodeValues.{same_error}
use Rattle.game_tree.proofs.game.read_root.Goals as goal

pub returns-in-Err-Fault-clause-fault : goal.returns-in-Err-Fault-clause-fault
returns-in-Err-Fault-clause-fault c = λ f e.
    root_bad-value c.args.text.now c.args.shape c.args.root.now c.args.game c.in-Err-Fault.fault _ f (rw c.pairs.ensures at (c.in-Err-Fault.ensures.fault c.in-Err-Fault.fault (ap Err c.in-Err-Fault.field-0-is))) (same_error _ _ e) c.first_fault.ensures.one c.first_fault.ensures.least c.first_fault.ensures.least_other

pub returns-in-Some-clause-fault : goal.returns-in-Some-clause-fault
returns-in-Some-clause-fault c = λ f e.
    let (setups, read, added) = c.in-Ok.ensures.ok in
    root_bad-game c.args.text.now c.args.shape c.args.root.now c.args.game c.in-Some.fault f (rw c.pairs.ensures at read.no_fault) c.in-Some.is (same_error _ _ e)
