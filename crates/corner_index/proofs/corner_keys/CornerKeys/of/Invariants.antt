use Rattle.corner_index.specs.Keys.{AreKeysTo}
use Rattle.corner_index.proofs.corner_keys.CornerKeys.of.Given as goal

abbrev pub invariant-loop-corner : goal.invariant-loop-corner
invariant-loop-corner l = AreKeysTo l.deltas l.corner l.ends l.keys.items
