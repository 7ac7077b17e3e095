use Rattle.std.proofs.Common.{◌≡◌, [], take}
use Rattle.hit_collectors.specs.Tallies.{with_hits}
use Rattle.hit_collectors.proofs.feeding.feed_box.Given as goal

abbrev pub invariant-loop-hit : goal.invariant-loop-hit
invariant-loop-hit g l = record {
  told : g.C.Collector.tally l.collector ≡ with_hits (take l.hit-index l.hits) (g.C.Collector.tally l.fn.collector);
  no_hits : l.hits ≡ [] → l.collector ≡ l.fn.collector;
}
