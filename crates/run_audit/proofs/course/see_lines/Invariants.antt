use Rattle.std.proofs.Common.{◌<◌, List, ℕ, length, map}
use Rattle.std.specs.Borrow.{Bor}
use Rattle.std.specs.Prelude.{IfSome}
use Rattle.run_audit.proofs.SeenLines.{SeenTo}
use Rattle.run_audit.proofs.course.see_lines.Given as goal

-- this was seen in the lines so far
abbrev pub invariant-loop-line : goal.invariant-loop-line
invariant-loop-line l = record {
  within : IfSome l.telling (λ at. at < length l.fn.shown);
  so_far : SeenTo l.fn.shown l.shown l.telling (map (λ (line : Bor (List ℕ)). line.now) l.yielded);
}
