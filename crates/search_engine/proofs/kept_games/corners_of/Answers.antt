use Rattle.std.proofs.Common.{arith}
use Rattle.search_engine.proofs.KeptBlocks.{corners-all, corners-more, corners-start}
use Rattle.search_engine.proofs.kept_games.corners_of.Goals as goal

pub loop-at-init : goal.loop-at-init
loop-at-init c = corners-start c.args.block.now c.in_ok-all.all.items c.in_ok-all.ensures.items

pub loop-at-preserved : goal.loop-at-preserved
loop-at-preserved c = corners-more c.args.block.now c.loop-at.at c.loop-at.all.items c.push.new.self.items c.corners_at.result c.loop-at.invariant c.in_ok-push.ensures.items c.corners_at.ensures

pub returns : goal.returns
returns c = corners-all c.args.block.now c.loop-at.at c.loop-at.all.items (omega (arith, c.loop-at-test.false, c.loop-at.auto.at-end, c.len-at-end.ensures.value)) (omega (arith, c.len-at-end.ensures.value, c.len-at-end.ensures.most)) c.loop-at.invariant
