use Rattle.std.proofs.Common.{◌≡◌, take}
use Rattle.search_run.specs.Seen.{HaveSeenOf}
use Rattle.search_run.proofs.searchers.learn_each.Given as goal

abbrev pub invariant-loop-searcher : goal.invariant-loop-searcher
invariant-loop-searcher l = record {
  opening : l.own.opening ≡ l.fn.own.opening;
  seen : l.own.seen ≡ l.fn.own.seen;
  learned : HaveSeenOf l.own.learned (take l.searcher-index l.block);
}
