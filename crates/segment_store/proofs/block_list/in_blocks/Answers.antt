use Rattle.std.proofs.Common.{rules, arith, ◌≤◌, length, ◌∙◌}
use Rattle.std.proofs.lemmas.Grind.{common_steps}
use Rattle.std.specs.Arc.{arc_value}
use Rattle.segment_store.proofs.GamesInBlocks.{taken_to}
use Rattle.segment_store.proofs.block_list.in_blocks.Goals as goal

pub loop-from-preserved : goal.loop-from-preserved
loop-from-preserved c =
    let low : c.loop-from.from ≤ c.min-to.result = first_of (search rules, grind (arith, common_steps)) in
    let high : c.min-to.result ≤ length c.args.games.now = first_of (search rules, grind (arith, common_steps)) in
    record {
      within = high;
      taken = taken_to arc_value c.args.games.now c.loop-from.from c.min-to.result c.loop-from.list (arc_value c.in_ok-new.field-0) c.push.new.self c.loop-from.invariant.taken (c.in_ok-new.ensures.ok ∙ c.in_ok-block.ensures) c.in_ok-push.ensures low;
    }
