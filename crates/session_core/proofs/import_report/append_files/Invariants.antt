use Rattle.std.proofs.Common.{◌≡◌, ◌++◌, take}
use Rattle.std.specs.List.{flat_map}
use Rattle.import_work.specs.Batches.{line_reports}
use Rattle.session_core.specs.ImportTexts.{file_text}
use Rattle.session_core.proofs.import_report.append_files.Given as goal

abbrev pub invariant-loop-file : goal.invariant-loop-file
invariant-loop-file l = l.out.items ≡ l.fn.out.items ++ flat_map file_text (line_reports (take l.file-index l.files))
