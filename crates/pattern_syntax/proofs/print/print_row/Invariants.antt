use Rattle.std.proofs.Common.{◌≡◌, ◌+◌, ◌≤◌, ◌++◌, map, vec_len, vec_capacity}
use Rattle.std.specs.List.{range_with_len}
use Rattle.pattern_images.specs.Grid.{cell_in}
use Rattle.pattern_images.specs.Pattern.{grid_of}
use Rattle.pattern_syntax.specs.Text.{cell_byte}
use Rattle.pattern_syntax.proofs.print.print_row.Given as goal

abbrev pub invariant-loop-x : goal.invariant-loop-x
invariant-loop-x l = record {
  items : l.out.items ≡ l.initial.out.items ++ map (λ x. cell_byte (cell_in (grid_of l.pattern) x l.y)) (range_with_len 0 l.x);
  len : vec_len l.out ≡ vec_len l.initial.out + l.x;
  room : vec_capacity l.initial.out ≤ vec_capacity l.out;
}
