use Rattle.sgf_writer.proofs.Closings.{IsClosing}
use Rattle.sgf_writer.proofs.walk.write_closings.Given as goal

abbrev pub invariant-loop-sibling : goal.invariant-loop-sibling
invariant-loop-sibling l = IsClosing l.fn.tree l.fn.leaf l.n l.fn.out.items l.out.items

abbrev pub decreases-loop-sibling : goal.decreases-loop-sibling
decreases-loop-sibling l = l.n
