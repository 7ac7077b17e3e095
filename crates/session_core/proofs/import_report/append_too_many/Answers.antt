use Rattle.std.proofs.Common.{[], ◌∷◌, ◌++◌, codes}
use Rattle.std.specs.Fmt.{decimal}
use Rattle.kb_geometry.proofs.Lists.{appended_thrice}
use Rattle.session_core.proofs.import_report.append_too_many.Goals as goal

pub returns-clause-ok : goal.returns-clause-ok
returns-clause-ok c =
    appended_thrice c.args.out.now.items (decimal c.args.line) (codes " imported too many files ") (decimal c.args.names ++ 10 ∷ [])
    (rw c.from.ensures at c.in_ok-append_decimal.ensures.ok) c.in_ok-append.ensures.ok c.in_ok-append_decimal_and.ensures.ok
