use Rattle.std.proofs.Common.{◌≡◌, ◌+◌, ◌≤◌, length, drop}
use Rattle.bstr.specs.Text.{lines_of}
use Rattle.query_script.specs.Progress.{IsReadBefore}
use Rattle.query_script.specs.Script.{script_lines}
use Rattle.query_script.proofs.script.read_script.Given as goal

abbrev pub invariant-loop-bytes : goal.invariant-loop-bytes
invariant-loop-bytes l = record {
  to_last : l.number ≤ length (lines_of l.fn.text);
  left : drop l.number (lines_of l.fn.text) ≡ l.bytes-iterator;
  read : IsReadBefore (script_lines l.fn.text) (l.number + 1) l.placed.items l.progress;
}
