-- What the changes touch has its upper left point within their reach.
use Rattle.std.proofs.Common.{subst}
use Rattle.kb_geometry.specs.declared.shape.Shape.{Shape}
use Rattle.line_matcher.specs.Areas.{HoldsChanges}
use Rattle.line_matcher.proofs.Nodes.{found_by_none, inside_reach}
use Rattle.line_matcher.proofs.walk.add_touched.Goals as goal

pub returns-in_default : goal.returns-in_default
returns-in_default c =
    found_by_none c.args.matcher.now.images.now c.args.walker.now.position c.args.changes.now c.args.points.now c.requires.concerned c.in_default.ensures c.args.node c.args.found.now.items

pub add_area-requires-clause-near : goal.add_area-requires-clause-near
add_area-requires-clause-near c = record {
  inside = λ i lt t. inside_reach c.args.matcher.now.images.now c.shape.ensures.images c.args.walker.now.position c.args.changes.now c.args.points.now c.requires.concerned c.in-Some.into c.reach.result
      (subst (λ (s : Shape). HoldsChanges s c.args.changes.now c.in-Some.into) c.shape.ensures.value c.in-Some.ensures.1)
      c.args.matcher.now.most c.args.matcher.now.made.most_are c.reach.ensures.reach i lt t;
}
