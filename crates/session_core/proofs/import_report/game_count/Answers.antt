use Rattle.std.proofs.Common.{◌+◌, arith}
use Rattle.session_core.proofs.ReportLines.{games_told-first, games_told-taken}
use Rattle.session_core.proofs.import_report.game_count.Goals as goal

pub overflow_add-games : goal.overflow_add-games
overflow_add-games c =
    let lines = c.args.lines.now in
    let i = c.loop-line.line-index in
    let more = games_told-taken lines i c.line-item.result c.loop-line-test.true c.line-item.is in
    omega (arith, more, games_told-first lines (i + 1), c.requires, c.loop-line.invariant, c.games_added-games.ensures)

pub loop-line-preserved : goal.loop-line-preserved
loop-line-preserved c =
    let more = games_told-taken c.args.lines.now c.loop-line.line-index c.line-item.result c.loop-line-test.true c.line-item.is in
    omega (arith, more, c.loop-line.invariant, c.games_added-games.ensures)
