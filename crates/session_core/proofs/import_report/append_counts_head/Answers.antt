use Rattle.std.proofs.Common.{codes}
use Rattle.std.specs.Fmt.{decimal}
use Rattle.kb_geometry.proofs.Lists.{appended_thrice}
use Rattle.session_core.proofs.import_report.append_counts_head.Goals as goal

pub returns-clause-ok : goal.returns-clause-ok
returns-clause-ok c =
    appended_thrice c.args.out.now.items (decimal c.args.line) (codes " imported files ") _
    (rw c.from.ensures at c.in_ok-append_decimal.ensures.ok) c.in_ok-append.ensures.ok
    (appended_thrice c.append.new.out.items (decimal c.args.files) (codes " accepted ") _ c.in_ok-append_decimal-2.ensures.ok c.in_ok-append-2.ensures.ok
    (appended_thrice c.append-2.new.out.items (decimal c.args.accepted) (codes " refused ") (decimal c.args.refused)
    c.in_ok-append_decimal-3.ensures.ok c.in_ok-append-3.ensures.ok c.in_ok-append_decimal-4.ensures.ok))
