use Rattle.std.proofs.Common.{◌≡◌, ◌+◌, ◌*◌, ◌≤◌, ◌++◌, vec_len, vec_capacity}
use Rattle.pattern_images.specs.Pattern.{grid_of}
use Rattle.pattern_syntax.specs.Text.{row_text}
use Rattle.pattern_syntax.proofs.TextBytes.{with_slashes}
use Rattle.pattern_syntax.proofs.print.print_pattern.Given as goal

abbrev pub invariant-loop-y : goal.invariant-loop-y
invariant-loop-y l = record {
  items : l.out.items ≡ l.fn.out.items ++ with_slashes (row_text (grid_of l.pattern)) 0 l.y;
  len : vec_len l.out + 1 ≡ vec_len l.fn.out + l.y * ((grid_of l.pattern).cols + 1);
  room : vec_len l.fn.out + (grid_of l.pattern).rows * ((grid_of l.pattern).cols + 1) ≤ vec_capacity l.out;
}
