use Rattle.std.proofs.Common.{◌≡◌, ◌≤◌, ◌++◌, ◌-◌, List, ℕ, Some, length, vec_len}
use Rattle.kb_edges.specs.Told.{IfTold}
use Rattle.serial_run.proofs.read.read_text.Given as goal

abbrev pub invariant-loop-buffer : goal.invariant-loop-buffer
invariant-loop-buffer g l = record {
  room : length l.buffer ≡ 4096;
  most : vec_len l.text ≤ 1048577;
  later : g.S.Source.faults l.fn.script ≤ g.S.Source.faults l.script;
  so_far : IfTold (g.S.Source.left l.fn.script) (λ bytes. (rest : List ℕ) × (g.S.Source.left l.script ≡ Some rest) × (bytes ≡ l.text.items ++ rest));
}

abbrev pub decreases-loop-buffer : goal.decreases-loop-buffer
decreases-loop-buffer g l = 1048577 - vec_len l.text
