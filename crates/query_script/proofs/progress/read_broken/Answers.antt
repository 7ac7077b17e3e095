use Rattle.std.proofs.Common.{subst}
use Rattle.query_script.specs.Script.{IsLeastBadLine}
use Rattle.query_script.proofs.ReadInside.{end_broken, still_broken}
use Rattle.query_script.proofs.Errors.{no_error, same_bad_line}
use Rattle.query_script.proofs.Faults.{no_other_end}
use Rattle.query_script.proofs.progress.read_broken.Goals.{in-End, in_default}
use Rattle.query_script.proofs.progress.read_broken.Goals as goal

pub returns-clause-read : goal.returns-clause-read
returns-clause-read c = elim c.match-line.branch [
  | in-End w ↦ rw w.result-is tt
  | in_default w ↦ rw w.result-is (λ lines placed number h at. still_broken lines number placed c.args.begun c.args.bad h c.args.line (no_other_end c.args.line at.line w.in_default.not-End) at)
]

pub returns-clause-bad_line : goal.returns-clause-bad_line
returns-clause-bad_line c = elim c.match-line.branch [
  | in-End w ↦ rw w.result-is (λ k is lines placed number h at.
      subst (IsLeastBadLine lines) (same_bad_line is) (end_broken lines number placed c.args.begun c.args.bad h (rw w.in-End.is at at)))
  | in_default w ↦ rw w.result-is (λ k is. no_error is)
]
