use Rattle.std.proofs.Common.{take}
use Rattle.std.specs.List.{flat_map}
use Rattle.kb_geometry.proofs.Prefixes.{refused_behind}
use Rattle.import_work.specs.Batches.{line_reports}
use Rattle.session_core.specs.ImportTexts.{file_text}
use Rattle.session_core.proofs.import_report.append_files.Goals as goal

pub returns-in_err-append_file-clause-refused : goal.returns-in_err-append_file-clause-refused
returns-in_err-append_file-clause-refused c =
    refused_behind c.from_residual.result c.args.out.now.items (flat_map file_text (line_reports (take c.loop-file.file-index c.args.files.now))) c.loop-file.invariant c.in_err-append_file.ensures.refused
