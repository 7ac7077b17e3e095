use Rattle.std.proofs.Common.{subst}
use Rattle.query_script.specs.Script.{IsLeastBadLine}
use Rattle.query_script.proofs.Errors.{same_bad_line}
use Rattle.query_script.proofs.ReadOutside.{bad_outside, ends_outside, read-skipped, read-statement}
use Rattle.query_script.proofs.progress.read_outside.Goals as goal

pub returns-in-Skipped-clause-read : goal.returns-in-Skipped-clause-read
returns-in-Skipped-clause-read c = λ lines h at. read-skipped lines c.args.number c.args.placed.now.items h (rw c.in-Skipped.is at at)

pub returns-in_ok-push-in-Statement-clause-read : goal.returns-in_ok-push-in-Statement-clause-read
returns-in_ok-push-in-Statement-clause-read c = λ lines h at.
    rw c.in_ok-push-in-Statement.ensures.items
    (read-statement lines (record { line = c.args.number; statement = c.in-Statement.statement }) c.args.placed.now.items h (rw c.in-Statement.is at at))

pub returns-in-End-clause-bad_line : goal.returns-in-End-clause-bad_line
returns-in-End-clause-bad_line c = λ k is lines h at.
    subst (IsLeastBadLine lines) (same_bad_line is) (ends_outside lines c.args.number c.args.placed.now.items h (rw c.in-End.is at at))

pub returns-in-Bad-clause-bad_line : goal.returns-in-Bad-clause-bad_line
returns-in-Bad-clause-bad_line c = λ k is lines h at.
    subst (IsLeastBadLine lines) (same_bad_line is) (bad_outside lines c.args.number c.args.placed.now.items h (rw c.in-Bad.is at at))
