use Rattle.std.proofs.Common.{◌≡◌, All, List, length}
use Rattle.import_work.specs.Log.{Segment}
use Rattle.search_run.specs.Seen.{AreOfOpening, HaveSeenOf, IsLookedAt}
use Rattle.search_run.proofs.searchers.look_each.Given as goal

abbrev pub invariant-loop-place : goal.invariant-loop-place
invariant-loop-place l = record {
  count : length l.versions.items ≡ l.place;
  opened : AreOfOpening l.own.opening l.block;
  seen : (log : List Segment) → HaveSeenOf log l.block → HaveSeenOf log l.fn.block;
  found : All (IsLookedAt l.own.seen l.block) l.versions.items;
}
