use Rattle.capture_index.specs.Hulls.{IsHullTo}
use Rattle.capture_index.specs.Lists.{IsWantedBy}
use Rattle.capture_index.specs.Runs.{AreToldBehind}
use Rattle.capture_index.proofs.by_lists.hull_of.Given as goal

-- the runs so far, which tell of the nodes from next on
abbrev pub invariant-loop-run : goal.invariant-loop-run
invariant-loop-run l = record {
  hull : IsHullTo (IsWantedBy l.want l.runs) l.end l.next l.hull;
  behind : AreToldBehind l.runs l.run-index l.next;
}
