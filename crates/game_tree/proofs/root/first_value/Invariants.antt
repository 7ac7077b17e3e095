use Rattle.std.proofs.Common.{◌≡◌, All, length}
use Rattle.game_tree.specs.NodeValues.{LiesIn}
use Rattle.game_tree.specs.Roots.{first_in, letters}
use Rattle.game_tree.proofs.root.first_value.Given as goal

abbrev pub invariant-loop-rest : goal.invariant-loop-rest
invariant-loop-rest l = record {
  same : first_in l.fn.text l.fn.pairs (letters l.fn.identifier) ≡ first_in l.fn.text l.rest (letters l.fn.identifier);
  inside : All (LiesIn (length l.fn.text)) l.rest;
}

abbrev pub decreases-loop-rest : goal.decreases-loop-rest
decreases-loop-rest l = length l.rest
