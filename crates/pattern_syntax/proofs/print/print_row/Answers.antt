-- Each turn appends the byte of one cell.
use Rattle.std.proofs.Common.{◌∙◌, ap, arith}
use Rattle.pattern_images.specs.Grid.{cell_in}
use Rattle.pattern_images.specs.Pattern.{grid_of}
use Rattle.pattern_syntax.specs.Text.{cell_byte}
use Rattle.pattern_syntax.proofs.TextBytes.{appended-more}
use Rattle.pattern_syntax.proofs.print.print_row.Goals as goal

pub loop-x-preserved : goal.loop-x-preserved
loop-x-preserved c = record {
  items = appended-more (λ x. cell_byte (cell_in (grid_of c.args.pattern.now) x c.args.y)) c.args.out.now.items c.loop-x.out.items c.push.new.self.items c.loop-x.x c.byte_of.result
      c.loop-x.invariant.items c.in_ok-push.ensures.items (c.byte_of.ensures ∙ ap cell_byte c.cell.ensures);
  len = omega (arith, c.in_ok-push.ensures.len);
  room = omega (arith, c.in_ok-push.ensures.capacity);
}
