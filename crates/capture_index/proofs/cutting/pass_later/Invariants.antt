use Rattle.capture_index.specs.Runs.{AreToldBehind}
use Rattle.capture_index.proofs.cutting.pass_later.Given as goal

abbrev pub invariant-loop-at : goal.invariant-loop-at
invariant-loop-at l = AreToldBehind l.runs l.at l.node
