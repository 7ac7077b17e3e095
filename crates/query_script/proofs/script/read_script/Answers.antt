use Rattle.std.proofs.Common.{Err, sym, ap, ◌∙◌, subst, arith}
use Rattle.std.proofs.lemmas.Result.{err_from_is_err_and}
use Rattle.bstr.specs.Text.{lines_of}
use Rattle.bstr.proofs.lemmas.LengthLemmas.{length-lines_of}
use Rattle.query_script.specs.Script.{IsLeastBadLine, script_lines}
use Rattle.query_script.proofs.Errors.{same_bad_line, same_error}
use Rattle.query_script.proofs.ReadInside.{never_ends}
use Rattle.query_script.proofs.ReadOutside.{read-all, read-none}
use Rattle.query_script.proofs.TextLines.{all_read, line_is_at, next_line}
use Rattle.query_script.proofs.script.read_script.Goals as goal

pub loop-bytes-init : goal.loop-bytes-init
loop-bytes-init c = record {
  to_last = omega arith;
  left = sym (c.into_iter-bytes-iterator.ensures.into_iter_gives ∙ c.lines_with_terminator-bytes-items.ensures.value);
  read = rw c.new-placed.ensures.items (read-none (script_lines c.args.text.now));
}

pub overflow_add-number : goal.overflow_add-number
overflow_add-number c =
    let next = next_line c.loop-bytes.number (lines_of c.args.text.now) c.in-Some.bytes.now c.next.new.self (c.loop-bytes.invariant.left ∙ c.in-Some.ensures.steps) in
    omega (arith, length-lines_of c.args.text.now, next.to_last, c.requires)

pub returns-in_err-progress-clause-bad_line : goal.returns-in_err-progress-clause-bad_line
returns-in_err-progress-clause-bad_line c =
    let next = next_line c.loop-bytes.number (lines_of c.args.text.now) c.in-Some.bytes.now c.next.new.self (c.loop-bytes.invariant.left ∙ c.in-Some.ensures.steps) in
    let handed = err_from_is_err_and c.from_residual-in_err-progress.result c.from_residual-in_err-progress.ensures.1 in
    rw handed.1 (λ k is. c.in_err-progress.ensures.bad_line k (ap Err (sym handed.2 ∙ same_error is)) (script_lines c.args.text.now) c.loop-bytes.invariant.read
    (line_is_at _ _ _ _ _ next c.in_ok-line.ensures))

pub loop-bytes-preserved : goal.loop-bytes-preserved
loop-bytes-preserved c =
    let next = next_line c.loop-bytes.number (lines_of c.args.text.now) c.in-Some.bytes.now c.next.new.self (c.loop-bytes.invariant.left ∙ c.in-Some.ensures.steps) in
    record {
      to_last = next.to_last;
      left = next.rest;
      read = c.in_ok-progress.ensures.read (script_lines c.args.text.now) c.loop-bytes.invariant.read (line_is_at _ _ _ _ _ next c.in_ok-line.ensures);
    }

pub returns-in-Outside-clause-statements : goal.returns-in-Outside-clause-statements
returns-in-Outside-clause-statements c =
    let all = all_read c.loop-bytes.number (lines_of c.args.text.now) c.loop-bytes.invariant.to_last (c.loop-bytes.invariant.left ∙ c.in-None.ensures.steps.0) in
    read-all (script_lines c.args.text.now) c.loop-bytes.placed.items (rw (all, c.in-Outside.is) at c.loop-bytes.invariant.read)

pub returns-in-Inside-clause-bad_line : goal.returns-in-Inside-clause-bad_line
returns-in-Inside-clause-bad_line c = λ k is.
    let all = all_read c.loop-bytes.number (lines_of c.args.text.now) c.loop-bytes.invariant.to_last (c.loop-bytes.invariant.left ∙ c.in-None.ensures.steps.0) in
    let inside = rw (all, c.in-Inside.is) at c.loop-bytes.invariant.read in
    subst (IsLeastBadLine (script_lines c.args.text.now)) (same_bad_line is) (never_ends (script_lines c.args.text.now) c.in-Inside.block.line c.loop-bytes.placed.items inside.begun)

pub returns-in-Broken-clause-bad_line : goal.returns-in-Broken-clause-bad_line
returns-in-Broken-clause-bad_line c = λ k is.
    let all = all_read c.loop-bytes.number (lines_of c.args.text.now) c.loop-bytes.invariant.to_last (c.loop-bytes.invariant.left ∙ c.in-None.ensures.steps.0) in
    let broken = rw (all, c.in-Broken.is) at c.loop-bytes.invariant.read in
    subst (IsLeastBadLine (script_lines c.args.text.now)) (same_bad_line is) (never_ends (script_lines c.args.text.now) c.in-Broken.begun c.loop-bytes.placed.items broken.begun)
