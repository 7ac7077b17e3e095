use Rattle.std.proofs.Common.{◌-◌}
use Rattle.game_tree.specs.Tree.{node_count}
use Rattle.sgf_writer.proofs.Closings.{IsWriting}
use Rattle.sgf_writer.proofs.walk.write_tree.Given as goal

abbrev pub invariant-loop-out : goal.invariant-loop-out
invariant-loop-out l = IsWriting l.fn.tree l.n l.fn.out.items l.out.items

abbrev pub decreases-loop-out : goal.decreases-loop-out
decreases-loop-out l = node_count l.fn.tree - l.n
