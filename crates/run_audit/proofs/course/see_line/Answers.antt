use Rattle.std.proofs.Common.{◌∙◌, ◌<◌, Option, length, subst, sym, ℕ}
use Rattle.std.specs.Prelude.{IfSome}
use Rattle.run_audit.proofs.ReportSteps.{plain-one}
use Rattle.run_audit.proofs.course.see_line.Goals as goal

pub returns-then-begins_with_digit-clause-seen : goal.returns-then-begins_with_digit-clause-seen
returns-then-begins_with_digit-clause-seen c = λ ascending numbered.
    c.see_report.ensures.seen ascending numbered (sym c.begins_with_digit.ensures ∙ c.if-begins_with_digit.true) c.args.telling

pub returns-in_ok-see_file-clause-seen : goal.returns-in_ok-see_file-clause-seen
returns-in_ok-see_file-clause-seen c = λ ascending numbered.
    let within = subst (λ (t : Option ℕ). IfSome t (λ at. at < length c.args.shown.now)) c.in-Some.is c.requires in
    plain-one c.args.line.now c.args.shown.now c.in-Some.at c.index-shown-at.result c.see_file.new.import c.args.telling c.in-Some.is (sym c.begins_with_digit.ensures ∙ c.if-begins_with_digit.false) within c.see_file.ensures.line c.in_ok-see_file.ensures.seen
