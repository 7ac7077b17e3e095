use Rattle.std.proofs.Common.{IsTrue, arith}
use Rattle.search_engine.proofs.GameBits.{AreAcceptedTo-all, AreAcceptedTo-more, AreAcceptedTo-start}
use Rattle.search_engine.proofs.accepted.met_games.Goals as goal

pub loop-at-init : goal.loop-at-init
loop-at-init c = AreAcceptedTo-start c.args.filter.now c.args.skip c.args.block.now

pub loop-at-preserved : goal.loop-at-preserved
loop-at-preserved c =
    AreAcceptedTo-more c.args.filter.now c.args.skip c.args.block.now c.loop-at.at c.loop-at.accepted c.with_bit-accepted.result c.get.result.now (IsTrue c.is_accepted.result)
    c.get.ensures.value c.is_accepted.ensures c.loop-at.invariant c.with_bit-accepted.ensures

pub returns : goal.returns
returns c = AreAcceptedTo-all c.args.filter.now c.args.skip c.args.block.now c.loop-at.at c.loop-at.accepted (omega (arith, c.loop-at-test.false, c.len-at-end.ensures.value)) c.loop-at.invariant
