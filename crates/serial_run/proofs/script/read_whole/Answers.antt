use Rattle.std.proofs.Common.{◌≡◌, ◌+◌, ◌∙◌, ap, sym}
use Rattle.serial_run.specs.Script.{bad_before_cut, too_long}
use Rattle.serial_run.proofs.script.read_whole.Goals as goal

pub returns-in-Err-clause-bad_line : goal.returns-in-Err-clause-bad_line
returns-in-Err-clause-bad_line c = λ k is. bad_before_cut c.before_cut-kept.result.now c.before_cut-kept.ensures (c.in-Err.ensures.bad_line k is)

pub returns-clause-bad_line : goal.returns-clause-bad_line
returns-clause-bad_line c = λ k is.
    let number : c.line_count-line.result + 1 ≡ k = cc in
    too_long c.before_cut-kept.result.now c.before_cut-kept.ensures c.in_default.ensures.statements.good (sym number ∙ ap (λ n. n + 1) c.line_count-line.ensures.value)
