-- One change more.
use Rattle.std.proofs.Common.{ap, arith}
use Rattle.kb_geometry.specs.declared.stone.Cell.TheVariants as stone
use Rattle.line_matcher.specs.declared.changed.Concerned.{Concerned}
use Rattle.line_matcher.proofs.ChangedPoints.{ConcernsBelow-start, ConcernsBelow-more, ConcernsBelow-all}
use Rattle.line_matcher.proofs.changed.Concerned.fill.Goals as goal

pub loop-change-init : goal.loop-change-init
loop-change-init c = record {
  black = ConcernsBelow-start stone.Black c.args.changes.now c.args.self.now.black (ap (λ (points : Concerned). points.black) c.requires.none);
  white = ConcernsBelow-start stone.White c.args.changes.now c.args.self.now.white (ap (λ (points : Concerned). points.white) c.requires.none);
}

pub loop-change-preserved : goal.loop-change-preserved
loop-change-preserved c = record {
  black = ConcernsBelow-more stone.Black c.args.changes.now c.loop-change.change-index c.loop-change.self.black c.add.new.points c.loop-change.invariant.black c.add.ensures;
  white = ConcernsBelow-more stone.White c.args.changes.now c.loop-change.change-index c.loop-change.self.white c.add-in-loop-change.new.points c.loop-change.invariant.white c.add-in-loop-change.ensures;
}

pub returns : goal.returns
returns c = record {
  black = ConcernsBelow-all stone.Black c.args.changes.now c.loop-change.change-index c.loop-change.self.black (omega arith) c.loop-change.invariant.black;
  white = ConcernsBelow-all stone.White c.args.changes.now c.loop-change.change-index c.loop-change.self.white (omega arith) c.loop-change.invariant.white;
}
