-- One cell more, unless the row has as many as it may have.
use Rattle.std.proofs.Common.{◌++◌, ◌∷◌, ◌+◌, [], ℕ, sym, subst}
use Rattle.pattern_syntax.specs.Reading.{IsPatternReadTo}
use Rattle.pattern_syntax.proofs.ReadTo.{fault_of_length, read-cell}
use Rattle.pattern_syntax.proofs.progress.Progress.after_cell.Goals as goal

pub returns-in_err-width : goal.returns-in_err-width
returns-in_err-width c = λ text k cells read lt is. rw c.from_residual.ensures (fault_of_length text k c.args.self cells read c.args.cell lt is c.in_err-width.ensures)

pub returns : goal.returns
returns c = λ text k cells read lt is.
    subst (λ (n : ℕ). IsPatternReadTo text (k + 1) (record { closed = c.args.self.closed; width = n }) (cells ++ c.args.cell ∷ [])) (sym c.in_ok-width.ensures.1)
    (read-cell text k c.args.self cells read c.args.cell lt is c.in_ok-width.ensures.0)
