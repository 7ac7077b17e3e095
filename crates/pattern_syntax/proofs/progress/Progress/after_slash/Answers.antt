-- One row more, unless it is uneven or the last one that there may be.
use Rattle.std.proofs.Common.{inr, arith}
use Rattle.std.proofs.lemmas.List.{append-nil}
use Rattle.pattern_syntax.proofs.ReadTo.{fault_at_end, read-slash}
use Rattle.pattern_syntax.proofs.progress.Progress.after_slash.Goals as goal

pub returns-in_err-closed : goal.returns-in_err-closed
returns-in_err-closed c = λ text k cells read lt is. rw c.from_residual.ensures (fault_at_end text k c.args.self cells read (inr (lt, is)) c.in_err-closed.ensures)

pub returns : goal.returns
returns c = λ text k cells read lt is.
    rw append-nil (read-slash text k c.args.self cells read c.in_ok-closed.closed c.in_ok-closed.ensures (lt, is) (λ last. omega (arith, c.rows.ensures.value)))
