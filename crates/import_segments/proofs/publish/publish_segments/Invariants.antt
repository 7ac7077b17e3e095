use Rattle.std.proofs.Common.{◌≡◌, ◌<◌, ◌≤◌, ◌+◌, ◌^◌, length}
use Rattle.version_publisher.specs.Contents.{items_in}
use Rattle.import_work.specs.Course.{trees_in}
use Rattle.import_work.specs.Outcome.{counts_of}
use Rattle.import_segments.specs.Merged.{MergesEach}
use Rattle.import_segments.specs.Published.{version_of}
use Rattle.import_segments.specs.Publishing.{IsIdle}
use Rattle.import_segments.specs.Stores.{HasFewGames, HasTaken}
use Rattle.import_segments.proofs.publish.publish_segments.Given as goal

abbrev pub invariant-loop-segment : goal.invariant-loop-segment
invariant-loop-segment g l = record {
  same : g.F.Folder.files l.folder ≡ g.F.Folder.files l.fn.folder;
  later : g.F.Folder.faults l.fn.folder ≤ g.F.Folder.faults l.folder;
  idle : IsIdle l.publisher;
  opening : l.publisher.opening ≡ l.fn.publisher.opening;
  number : length l.publisher.log + length l.import.left < 2 ^ 64;
  counted : l.import.counts ≡ counts_of (trees_in (items_in l.publisher.log));
  few : HasFewGames l.import.counts;
  taken : HasTaken (g.F.Folder.files l.fn.folder) l.fn.batch l.fn.import l.import (version_of l.fn.publisher.log) (version_of l.publisher.log) (g.F.Folder.faults l.fn.folder) (g.F.Folder.faults l.folder);
  parts : MergesEach l.fn.publisher.log l.publisher.log l.fn.publisher.parts l.publisher.parts;
}

abbrev pub decreases-loop-segment : goal.decreases-loop-segment
decreases-loop-segment g l = length l.import.left
