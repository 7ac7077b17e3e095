use Rattle.std.proofs.Common.{rules, ◌≡◌, ◌≢◌, ◌∙◌, codes, subst, sym}
use Rattle.run_audit.specs.Courses.{SeesLine}
use Rattle.run_audit.proofs.ReportSteps.{report-files, report-none, report-other, report-plain, report-told, report-unlisted}
use Rattle.run_audit.proofs.course.see_report.Goals.{then-shown-at-via-then-shown-at, then-shown-at-via-else-shown-at+then-not-starts_with}
use Rattle.run_audit.proofs.course.see_report.Goals as goal

pub returns-in_err-number-clause-seen : goal.returns-in_err-number-clause-seen
returns-in_err-number-clause-seen c = λ ascending numbered digit telling.
    subst (SeesLine c.args.line.now c.args.shown.now c.args.shown.now telling) (sym c.from_residual.ensures)
    (report-none c.args.line.now c.args.shown.now telling numbered digit (c.split_number.ensures.none c.in_err-number.was))

pub returns-in_err-at-clause-seen : goal.returns-in_err-at-clause-seen
returns-in_err-at-clause-seen c = λ ascending numbered digit telling.
    let split = c.in_ok-number.ensures.some in
    subst (SeesLine c.args.line.now c.args.shown.now c.args.shown.now telling) (sym c.from_residual-in_err-at.ensures)
    (report-other c.args.line.now c.in_ok-number.told.now c.in_ok-number.number c.args.shown.now telling numbered digit split.0 split.1 split.2 (c.place_of.ensures.none c.in_err-at.was ascending))

pub returns-then-eq-clause-seen : goal.returns-then-eq-clause-seen
returns-then-eq-clause-seen c = λ ascending numbered digit telling.
    let split = c.in_ok-number.ensures.some in
    let place = c.in_ok-at.ensures.there in
    let same : c.in_ok-number.told.now ≡ codes " imported unlisted" = search rules in
    report-unlisted c.args.line.now c.in_ok-number.told.now c.in_ok-number.number split.2 split.0 split.1 c.in_ok-at.at c.args.shown.now c.index-shown-at.result telling ascending numbered digit place.0 place.1 same

pub returns-then-shown-at-clause-seen : goal.returns-then-shown-at-clause-seen
returns-then-shown-at-clause-seen c = λ ascending numbered digit telling.
    let split = c.in_ok-number.ensures.some in
    let place = c.in_ok-at.ensures.there in
    let other : c.in_ok-number.told.now ≢ codes " imported unlisted" = search rules in
    elim c.then-shown-at.branch [
      | then-shown-at-via-then-shown-at w ↦
          report-told c.args.line.now c.in_ok-number.told.now c.in_ok-number.number split.2 split.0 split.1 c.in_ok-at.at c.args.shown.now c.index-shown-at-2.result telling ascending numbered digit place.0 place.1 other c.index-shown-at-2.result w.if-shown-at.true
      | then-shown-at-via-else-shown-at+then-not-starts_with w ↦
          report-plain c.args.line.now c.in_ok-number.told.now c.in_ok-number.number split.2 split.0 split.1 c.in_ok-at.at c.args.shown.now c.index-shown-at-2.result telling ascending numbered digit place.0 place.1 other (sym w.starts_with.ensures.value ∙ w.if-not-starts_with.true)
    ]

pub returns-clause-seen : goal.returns-clause-seen
returns-clause-seen c = λ ascending numbered digit telling.
    let split = c.in_ok-number.ensures.some in
    let place = c.in_ok-at.ensures.there in
    let other : c.in_ok-number.told.now ≢ codes " imported unlisted" = search rules in
    report-files c.args.line.now c.in_ok-number.told.now c.in_ok-number.number split.2 split.0 split.1 c.in_ok-at.at c.args.shown.now c.index-shown-at-3.result telling ascending numbered digit place.0 place.1 other c.index-shown-at-2.result c.if-shown-at.false (sym c.starts_with.ensures.value ∙ c.if-not-starts_with.false)
