use Rattle.std.proofs.Common.{◌≡◌, length, All}
use Rattle.left_right.specs.Sides.{view}
use Rattle.version_publisher.specs.Contents.{IsNewSearcher}
use Rattle.version_publisher.proofs.opening.new_searchers.Given as goal

abbrev pub invariant-loop-i : goal.invariant-loop-i
invariant-loop-i g l = record {
  kept : (l.writer.desk.shown ≡ l.initial.writer.desk.shown) × (l.writer.log ≡ l.initial.writer.log) × (l.writer.behind ≡ l.initial.writer.behind) × (view l.writer.desk.place ≡ view l.initial.writer.desk.place);
  long : length l.searchers.items ≡ l.i;
  new : All (IsNewSearcher l.empty.opening) l.searchers.items;
}
