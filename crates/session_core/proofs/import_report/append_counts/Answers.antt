use Rattle.import_work.specs.Batches.{line_reports}
use Rattle.session_core.specs.ImportTexts.{counts_head, counts_tail}
use Rattle.kb_geometry.proofs.Lists.{appended_twice}
use Rattle.session_core.proofs.import_report.append_counts.Goals as goal

pub returns-clause-ok : goal.returns-clause-ok
returns-clause-ok c =
    let reports = line_reports c.args.lines.now in
    rw (← c.file_count-files.ensures, ← c.accepted_count-accepted.ensures, ← c.refused_count-refused.ensures, ← c.full_count-full.ensures, ← c.unread_count-unread.ensures)
    (appended_twice c.args.out.now.items
    (counts_head c.args.line c.file_count-files.result c.accepted_count-accepted.result c.refused_count-refused.result)
    (counts_tail c.full_count-full.result c.unread_count-unread.result c.args.games c.args.version)
    c.in_ok-append_counts_head.ensures.ok c.in_ok-append_counts_tail.ensures.ok)
