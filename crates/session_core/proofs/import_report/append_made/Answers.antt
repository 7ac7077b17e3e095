use Rattle.std.proofs.Common.{codes, [], ◌∷◌, ◌++◌}
use Rattle.std.specs.Fmt.{decimal}
use Rattle.kb_geometry.proofs.Lists.{appended_thrice}
use Rattle.session_core.proofs.import_report.append_made.Goals as goal

pub returns-clause-ok : goal.returns-clause-ok
returns-clause-ok c =
    appended_thrice c.args.out.now.items (decimal c.args.line) (codes " made games ") _
    (rw c.from.ensures at c.in_ok-append_decimal.ensures.ok) c.in_ok-append.ensures.ok
    (appended_thrice c.append.new.out.items (decimal c.args.games) (codes " full ") _
    (rw c.from-2.ensures at c.in_ok-append_decimal-2.ensures.ok) c.in_ok-append-2.ensures.ok
    (appended_thrice c.append-2.new.out.items (decimal c.args.full) (codes " version ") (decimal c.args.version ++ 10 ∷ [])
    (rw c.from-3.ensures at c.in_ok-append_decimal-3.ensures.ok) c.in_ok-append-3.ensures.ok c.in_ok-append_decimal_and.ensures.ok))
