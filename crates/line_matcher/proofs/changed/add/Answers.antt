use Rattle.line_matcher.proofs.ChangedPoints.{IsWithChange-insert}
use Rattle.line_matcher.proofs.changed.add.Goals as goal

pub returns-then-has_stone : goal.returns-then-has_stone
returns-then-has_stone c =
    IsWithChange-insert c.args.stone c.args.change c.args.points.now c.insert.new.self (c.has_stone.ensures.0 c.if-has_stone.true) c.insert.ensures
