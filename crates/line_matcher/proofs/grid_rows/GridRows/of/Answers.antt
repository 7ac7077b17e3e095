-- One rectangle more comes behind those so far.
use Rattle.std.proofs.Common.{arith, rules}
use Rattle.line_matcher.proofs.RowLists.{HaveGridsTo-more, HaveGridsTo-end}
use Rattle.line_matcher.proofs.grid_rows.GridRows.of.Goals as goal

pub loop-class-preserved : goal.loop-class-preserved
loop-class-preserved c =
    HaveGridsTo-more c.args.images.now.grids c.loop-class.class c.loop-class.ranges.items c.push.new.self.items c.loop-class.rows.items c.add_rows.new.rows.items (record { start = c.len-start.result; end = c.len.result })
    c.loop-class.invariant c.in_ok-add_rows.ensures (search rules) (search rules) c.in_ok-push.ensures.items

pub returns : goal.returns
returns c = HaveGridsTo-end c.args.images.now.grids c.loop-class.class c.loop-class.ranges.items _ c.loop-class.invariant (omega arith)
