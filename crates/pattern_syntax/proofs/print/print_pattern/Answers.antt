-- Each turn appends a `/` and one row, for which there is room.
use Rattle.std.proofs.Common.{arith}
use Rattle.pattern_images.specs.Pattern.{grid_of}
use Rattle.pattern_syntax.specs.Text.{row_text}
use Rattle.pattern_syntax.proofs.TextBytes.{with_slashes-appended}
use Rattle.pattern_syntax.proofs.print.print_pattern.Goals as goal

pub loop-y-preserved : goal.loop-y-preserved
loop-y-preserved c = record {
  items = with_slashes-appended (row_text (grid_of c.args.pattern.now)) c.args.out.now.items c.loop-y.out.items c.push.new.self.items c.print_row-in-loop-y.new.out.items c.loop-y.y
      (omega (arith, c.loop-y.auto.y)) c.loop-y.invariant.items c.in_ok-push.ensures.items c.in_ok-print_row-2.ensures.ok;
  len = omega (arith, c.in_ok-push.ensures.len, c.in_ok-print_row-2.ensures.len);
  room = omega (arith, c.in_ok-push.ensures.capacity, c.in_ok-print_row-2.ensures.room);
}
