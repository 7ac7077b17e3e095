use Rattle.std.proofs.Common.{◌≢◌, take, All}
use Rattle.hit_collectors.proofs.retiring.first_named.Given as goal

abbrev pub invariant-loop-i : goal.invariant-loop-i
invariant-loop-i g l = All (λ b. (g.C.Collector.tally b).name ≢ l.name) (take l.i l.boxes)
