use Rattle.std.proofs.Common.{◌≡◌, length, reverse}
use Rattle.import_segments.specs.Published.{with_last}
use Rattle.import_segments.specs.Publishing.{IsIdle}
use Rattle.import_segments.proofs.merging.merge_parts.Given as goal

abbrev pub invariant-loop-both : goal.invariant-loop-both
invariant-loop-both g l = record {
  idle : IsIdle l.publisher;
  log : l.publisher.log ≡ l.fn.publisher.log;
  opening : l.publisher.opening ≡ l.fn.publisher.opening;
  parts : with_last (reverse l.publisher.parts) ≡ with_last (reverse l.fn.publisher.parts);
}

abbrev pub decreases-loop-both : goal.decreases-loop-both
decreases-loop-both g l = length l.publisher.parts
