use Rattle.std.proofs.Common.{◌≡◌, ◌≤◌, ◌++◌, length}
use Rattle.version_publisher.specs.Contents.{items_in}
use Rattle.run_tests.proofs.publishing.publish_often.Given as goal

-- each turn appends one part of one number
abbrev pub invariant-loop-i : goal.invariant-loop-i
invariant-loop-i g l = record {
  same : (l.publisher.opening ≡ l.initial.publisher.opening) × (l.searcher.opening ≡ l.initial.searcher.opening);
  number : length (l.publisher.log ++ l.publisher.pending) ≤ l.i;
  room : length (items_in (l.publisher.log ++ l.publisher.pending)) ≤ l.i;
}
