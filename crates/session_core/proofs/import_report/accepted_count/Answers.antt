use Rattle.std.proofs.Common.{rules}
use Rattle.import_work.specs.Batches.{line_report}
use Rattle.session_core.specs.ImportTexts.{is_accepted}
use Rattle.session_core.proofs.ReportLines.{count_by-map}
use Rattle.session_core.proofs.import_report.accepted_count.Goals as goal

pub returns : goal.returns
returns c = rw (count_by-map line_report is_accepted c.args.lines.now) (search rules)
