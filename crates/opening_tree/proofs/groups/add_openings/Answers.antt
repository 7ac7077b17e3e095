use Rattle.std.proofs.Common.{◌<◌, ◌∙◌, [], arith, length, refl}
use Rattle.opening_tree.specs.Groups.{none_yet}
use Rattle.opening_tree.proofs.StoredJoin.{adding-at, adding-end, ready-at}
use Rattle.opening_tree.proofs.groups.add_openings.Goals as goal

pub loop-at-init : goal.loop-at-init
loop-at-init c = record {
  kept = λ points ready. record { ready = ready; leads = refl };
  width = refl;
}

pub add_opening-requires-clause-in_range : goal.add_opening-requires-clause-in_range
add_opening-requires-clause-in_range c = omega (arith, c.loop-at-test.true, c.len-at-end.ensures)

pub add_opening-requires-clause-ready : goal.add_opening-requires-clause-ready
add_opening-requires-clause-ready c =
    let (points, ready, width) = c.requires in
    let lt : c.loop-at.at < length c.args.more.now.entries = omega (arith, c.loop-at-test.true, c.len-at-end.ensures) in
    (points, λ d. ready-at points c.args.openings.now.entries c.args.more.now.entries c.loop-at.openings.entries c.loop-at.at d lt (c.loop-at.invariant.kept points ready), c.loop-at.invariant.width ∙ width)

pub loop-at-preserved : goal.loop-at-preserved
loop-at-preserved c = record {
  kept = λ points ready.
      let lt : c.loop-at.at < length c.args.more.now.entries = omega (arith, c.loop-at-test.true, c.len-at-end.ensures) in
      let is = c.loop-at.invariant.kept points ready in
      let one = c.in_ok-add_opening.ensures.added points ([], none_yet 0 0) (ready-at points c.args.openings.now.entries c.args.more.now.entries c.loop-at.openings.entries c.loop-at.at ([], none_yet 0 0) lt is) in
      adding-at points c.args.openings.now.entries c.args.more.now.entries c.loop-at.openings.entries c.loop-at.at ([], none_yet 0 0) lt is c.add_opening.new.openings.entries one.0 one.1;
  width = c.add_opening.ensures.width ∙ c.loop-at.invariant.width;
}

pub returns-clause-added : goal.returns-clause-added
returns-clause-added c points ready =
    adding-end points c.args.openings.now.entries c.args.more.now.entries c.loop-at.openings.entries c.loop-at.at (omega (arith, c.loop-at-test.false, c.len-at-end.ensures)) (c.loop-at.invariant.kept points ready)
