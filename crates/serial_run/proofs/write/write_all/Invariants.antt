use Rattle.std.proofs.Common.{◌≡◌, ◌≤◌, ◌++◌, List, ℕ, Some, length}
use Rattle.kb_edges.specs.Told.{IfTold}
use Rattle.serial_run.proofs.write.write_all.Given as goal

abbrev pub invariant-loop-rest : goal.invariant-loop-rest
invariant-loop-rest g l = record {
  later : g.K.Sink.faults l.fn.out ≤ g.K.Sink.faults l.out;
  so_far : IfTold (g.K.Sink.written l.fn.out) (λ before. (done : List ℕ) × (l.text ≡ done ++ l.rest) × (g.K.Sink.written l.out ≡ Some (before ++ done)));
}

abbrev pub decreases-loop-rest : goal.decreases-loop-rest
decreases-loop-rest g l = length l.rest
