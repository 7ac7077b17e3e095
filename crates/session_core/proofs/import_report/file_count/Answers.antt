use Rattle.std.proofs.Common.{refl}
use Rattle.std.proofs.lemmas.List.{length-map}
use Rattle.import_work.specs.Batches.{line_report}
use Rattle.session_core.proofs.import_report.file_count.Goals as goal

pub returns : goal.returns
returns c = rw (length-map c.args.lines.now line_report) refl
