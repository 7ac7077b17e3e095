use Rattle.std.proofs.Common.{arith, []}
use Rattle.capture_index.proofs.Linked.{link-before, link-step, pushed-more}
use Rattle.capture_index.proofs.growing.Growing.push_runs.Goals as goal

pub loop-at-preserved : goal.loop-at-preserved
loop-at-preserved c =
    let links = c.self.inside.links.items in
    let ne = c.loop-at-test.true in
    let less = link-before links c.self.invariant.back c.loop-at.at ne c.loop-at.invariant.0 c.index-link.result.now c.index-link.ensures in (
      omega (arith, less, c.loop-at.invariant.0),
      pushed-more links c.loop-at.at c.index-link.result.now c.loop-at.runs.items c.push.new.self.items [] _ (link-step links c.self.invariant.back c.loop-at.at ne c.loop-at.invariant.0 c.index-link.result.now c.index-link.ensures) c.in_ok-push.ensures.items c.loop-at.invariant.1,
    )
