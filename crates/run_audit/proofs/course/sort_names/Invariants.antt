use Rattle.run_audit.proofs.CourseEnds.{SortedTo}
use Rattle.run_audit.proofs.course.sort_names.Given as goal

-- the names of so many imports are in order
abbrev pub invariant-loop-import : goal.invariant-loop-import
invariant-loop-import l = SortedTo l.fn.shown l.shown l.import-index
