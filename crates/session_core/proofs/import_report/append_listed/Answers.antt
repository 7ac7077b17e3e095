use Rattle.std.specs.List.{flat_map}
use Rattle.import_work.specs.Batches.{line_reports}
use Rattle.session_core.specs.ImportTexts.{counts_text, file_text}
use Rattle.kb_geometry.proofs.Lists.{appended_twice}
use Rattle.session_core.proofs.import_report.append_listed.Goals as goal

pub returns-clause-ok : goal.returns-clause-ok
returns-clause-ok c =
    let reports = line_reports c.args.files.now in
    appended_twice c.args.out.now.items (counts_text c.args.line reports c.args.games c.args.version) (flat_map file_text reports)
    c.in_ok-append_counts.ensures.ok c.in_ok-append_files.ensures.ok
