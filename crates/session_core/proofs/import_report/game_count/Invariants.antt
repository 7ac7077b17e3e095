use Rattle.std.proofs.Common.{◌≡◌, take}
use Rattle.import_work.specs.Batches.{games_told, line_reports}
use Rattle.session_core.proofs.import_report.game_count.Given as goal

abbrev pub invariant-loop-line : goal.invariant-loop-line
invariant-loop-line l = l.games ≡ games_told (line_reports (take l.line-index l.lines))
