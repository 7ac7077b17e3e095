use Rattle.game_tree.specs.Built.{tree_so_far}
use Rattle.game_tree.proofs.Climbs.{IsClimbed}
use Rattle.game_tree.proofs.builder.TreeBuilder.sibling_before.Given as goal

abbrev pub invariant-loop-n : goal.invariant-loop-n
invariant-loop-n l = IsClimbed (tree_so_far l.fn.self) l.fn.parent l.n

abbrev pub decreases-loop-n : goal.decreases-loop-n
decreases-loop-n l = l.n
