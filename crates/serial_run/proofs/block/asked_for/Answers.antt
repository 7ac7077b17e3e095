use Rattle.std.proofs.Common.{◌<◌, arith, length, refl}
use Rattle.serial_run.proofs.BlockAnswers.{AreAskedTo-more}
use Rattle.serial_run.proofs.block.asked_for.Goals as goal

pub loop-i-preserved : goal.loop-i-preserved
loop-i-preserved c =
    let searches = c.args.searches.now in
    let versions = c.args.versions.now in
    let under : c.loop-i.i < length versions = omega (arith, c.loop-i-test.true, c.requires) in
    AreAskedTo-more searches versions c.loop-i.i c.loop-i.asked.items c.push.new.self.items _ c.index-searches-i.result c.index-versions-i.result c.loop-i-test.true under c.index-searches-i.is c.index-versions-i.is
    (record { version_is = refl; query_is = refl; filter_is = refl }) c.in_ok-push.ensures.items c.loop-i.invariant
