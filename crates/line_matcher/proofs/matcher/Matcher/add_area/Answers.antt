-- Above the area and below it nothing begins to hold.
use Rattle.std.proofs.Common.{arith}
use Rattle.line_matcher.specs.Begins.{holds_anew, seen}
use Rattle.line_matcher.proofs.Areas.{rows_above, rows_below}
use Rattle.line_matcher.proofs.FoundLists.{IsAdded-trans}
use Rattle.line_matcher.proofs.matcher.Matcher.add_area.Goals as goal

pub loop-y-init : goal.loop-y-init
loop-y-init c =
    let images = c.args.self.now.images.now in
    rows_above images c.args.self.now.made.placed c.args.self.now.starts.items c.args.self.now.made.starts_are c.args.visit.now c.args.area c.requires.near c.requires.area c.args.found.now.items

pub loop-y-preserved : goal.loop-y-preserved
loop-y-preserved c =
    let images = c.args.self.now.images.now in
    IsAdded-trans images.placements (holds_anew images.shape c.args.visit.now.walker.now.position (seen c.args.visit.now.changed)) c.args.visit.now.node c.loop-y.invariant c.in_ok-add_row.ensures

pub returns : goal.returns
returns c =
    let images = c.args.self.now.images.now in
    IsAdded-trans images.placements (holds_anew images.shape c.args.visit.now.walker.now.position (seen c.args.visit.now.changed)) c.args.visit.now.node c.loop-y.invariant
    (rows_below images c.args.self.now.made.placed c.args.self.now.starts.items c.args.self.now.made.starts_are c.args.visit.now c.args.area c.requires.near c.requires.area c.loop-y.y c.loop-y.found.items (omega arith))
