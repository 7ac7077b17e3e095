use Rattle.session_core.specs.Stores.{view_of}
use Rattle.session_core.proofs.AnswerTexts.{IsGameText-none, IsGameText-there}
use Rattle.session_core.proofs.session.append_game.Goals as goal

pub returns-in-Some-clause-ok : goal.returns-in-Some-clause-ok
returns-in-Some-clause-ok c =
    IsGameText-there c.args.line (view_of c.args.version.now) c.number.result c.args.game c.number.ensures c.append_found.result c.in-Some.found.now c.args.out.now.items c.append_found.new.out.items c.in-Some.ensures c.append_found.ensures.ok

pub returns-in-None-clause-ok : goal.returns-in-None-clause-ok
returns-in-None-clause-ok c =
    IsGameText-none c.args.line (view_of c.args.version.now) c.number-in-None.result c.args.game c.number-in-None.ensures c.print_no_game.result c.args.out.now.items c.print_no_game.new.out.items c.in-None.ensures c.print_no_game.ensures.ok
