use Rattle.std.proofs.Common.{[]}
use Rattle.session_core.proofs.FoundGames.{line-more}
use Rattle.session_core.proofs.lists.append_found.Goals as goal

pub loop-number-preserved : goal.loop-number-preserved
loop-number-preserved c =
    line-more c.args.forms.now c.args.found.now c.loop-number.number-index (record { bytes = [] }) c.args.out.now.items c.loop-number.out.items c.print_found_game.new.out.items
    c.loop-number-test.true (c.requires c.loop-number.number-index 0 c.loop-number-test.true) c.loop-number.invariant c.in_ok-print_found_game.ensures.ok
