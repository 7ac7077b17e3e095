use Rattle.std.proofs.Common.{rules}
use Rattle.import_work.specs.Batches.{line_report}
use Rattle.session_core.specs.ImportTexts.{is_refused}
use Rattle.session_core.proofs.ReportLines.{count_by-map}
use Rattle.session_core.proofs.import_report.refused_count.Goals as goal

pub returns : goal.returns
returns c = rw (count_by-map line_report is_refused c.args.lines.now) (search rules)
