use Rattle.std.proofs.Common.{◌≤◌, length}
use Rattle.std.specs.Slice.Iter.{chunks_rest}
use Rattle.run_audit.proofs.SearchSteps.{HitsTo}
use Rattle.run_audit.proofs.searching.behind_hits.Given as goal

-- the lines of the first hits stand there
abbrev pub invariant-loop-some : goal.invariant-loop-some
invariant-loop-some l = record {
  can_next : goal.iterator-loop-some.can_next l.some-iterator;
  finite : goal.iterator-loop-some.is_finite l.some-iterator;
  shorter : length l.left ≤ length l.fn.left;
  so_far : HitsTo l.hits (chunks_rest l.some-iterator) l.fn.left l.left;
}
