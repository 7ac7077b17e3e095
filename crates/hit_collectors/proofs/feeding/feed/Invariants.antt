use Rattle.std.proofs.Common.{◌≡◌, ◌++◌, [], map, take, drop}
use Rattle.hit_collectors.specs.Boxes.{all_with_hits}
use Rattle.hit_collectors.proofs.feeding.feed.Given as goal

abbrev pub invariant-loop-i : goal.invariant-loop-i
invariant-loop-i g l = record {
  told :
      map (λ b. g.C.Collector.tally b) l.boards
      ≡ all_with_hits l.hits (take l.i (map (λ b. g.C.Collector.tally b) l.fn.boards))
      ++ drop l.i (map (λ b. g.C.Collector.tally b) l.fn.boards);
  later : drop l.i l.boards ≡ drop l.i l.fn.boards;
  no_hits : l.hits ≡ [] → l.boards ≡ l.fn.boards;
}
