use Rattle.std.proofs.Common.{◌≡◌, ◌∙◌, ◌++◌, ◌-◌, ◌<◌, ◌≤◌, [], All, List, ap, arith, length, map, refl, rules, subst, sym, ℕ}
use Rattle.std.proofs.lemmas.Grind.{common_steps}
use Rattle.run_audit.specs.AuditWords.{rules_of}
use Rattle.run_audit.specs.Courses.{IsAmongShown, ShowsImport}
use Rattle.run_audit.specs.Standing.{DepartsIn, kept_last}
use Rattle.run_audit.specs.Verdict.{DepartsAt}
use Rattle.run_audit.proofs.AmongShown.{all-shown, among-shown}
use Rattle.run_audit.proofs.Departures.{same-count, same_error}
use Rattle.run_audit.proofs.FewVersions.{few-script}
use Rattle.run_audit.proofs.WholeSteps.{report-departs, start-fits, turn-departs, turn-passes, turns-over, whole-end, whole-past, whole-start}
use Rattle.run_audit.proofs.whole.audit_statements.Goals as goal

pub loop-p-init : goal.loop-p-init
loop-p-init g c =
    let boxes = map (λ b. g.C.Collector.tally b) c.args.boxes.items in record {
      same = refl;
      later = omega arith;
      fits = c.new-base.ensures.fits;
      watched = start-fits [] (rules_of c.args.words) boxes c.args.recorded.now c.new-base.result c.new-session.result c.new-session.ensures;
      number = omega (arith, ap kept_last c.new-base.ensures.nothing);
      shorter = omega arith;
      passed = λ files told script is. whole-start files (rules_of c.args.words) boxes c.args.recorded.now c.new-base.result c.new-session.result c.new-base.ensures.nothing c.new-session.ensures;
    }

pub behind_next-requires-clause-number : goal.behind_next-requires-clause-number
behind_next-requires-clause-number g c = omega (arith, c.loop-p.invariant.number, c.loop-p-test.true, c.requires.few)

pub returns-in_err-left-clause-departs : goal.returns-in_err-left-clause-departs
returns-in_err-left-clause-departs g c = λ files told script is count err.
    let h = c.loop-p.invariant in
    turn-departs files (rules_of c.args.words) (map (λ b. g.C.Collector.tally b) c.args.boxes.items) c.args.recorded.now c.args.placed.now c.loop-p.p-index c.loop-p.left.now c.loop-p.base c.loop-p.session (h.passed files told script is)
    c.p-item.result c.loop-p-test.true c.p-item.is count (few-script (rules_of c.args.words) script c.args.placed.now c.requires.some is) h.fits
    (c.behind_next.ensures.departs files (h.same ∙ told) count (same_error _ _ _ _ c.from_residual-in_err-left.ensures.1 c.in_err-left.was err) c.args.recorded.now)

pub returns-in_err-left-clause-within : goal.returns-in_err-left-clause-within
returns-in_err-left-clause-within g c = λ count err.
    let here = c.behind_next.ensures.within count (same_error _ _ _ _ c.from_residual-in_err-left.ensures.1 c.in_err-left.was err) in
    omega (arith, here, c.loop-p.invariant.shorter)

pub loop-p-preserved : goal.loop-p-preserved
loop-p-preserved g c =
    let h = c.loop-p.invariant in record {
      same = c.behind_next.ensures.same ∙ h.same;
      later = omega (arith, h.later, c.behind_next.ensures.later);
      fits = c.in_ok-left.ensures.fits;
      watched = c.in_ok-left.ensures.watched;
      number = omega (arith, h.number, c.in_ok-left.ensures.last);
      shorter = omega (arith, h.shorter, c.in_ok-left.ensures.shorter);
      passed = λ files told script is.
          turn-passes files (rules_of c.args.words) (map (λ b. g.C.Collector.tally b) c.args.boxes.items) c.args.recorded.now c.args.placed.now c.loop-p.p-index c.loop-p.left.now c.loop-p.base c.loop-p.session (h.passed files told script is)
          c.p-item.result c.loop-p-test.true c.p-item.is c.in_ok-left.left.now c.behind_next.new.base c.behind_next.new.session
          (c.in_ok-left.ensures.passed files (h.same ∙ told) c.args.recorded.now
          (subst (All (ShowsImport c.args.recorded.now)) (sym c.deref.ensures.value) (all-shown script c.args.placed.now is c.in_ok-shown.shown.items c.in_ok-shown.ensures.lines c.args.recorded.now c.in_ok-shown.ensures.each))
          (subst (IsAmongShown c.p-item.result) (sym c.deref.ensures.value) (among-shown script c.args.placed.now is c.in_ok-shown.shown.items c.in_ok-shown.ensures.lines c.loop-p.p-index c.p-item.result c.loop-p-test.true c.p-item.is)));
    }

pub returns-in_err-left-2-clause-departs : goal.returns-in_err-left-2-clause-departs
returns-in_err-left-2-clause-departs g c = λ files told script is count err.
    let h = c.loop-p.invariant in
    report-departs files (rules_of c.args.words) (map (λ b. g.C.Collector.tally b) c.args.boxes.items) c.args.recorded.now c.args.placed.now c.loop-p.left.now c.loop-p.base c.loop-p.session
    (turns-over files (rules_of c.args.words) (map (λ b. g.C.Collector.tally b) c.args.boxes.items) c.args.recorded.now c.args.placed.now c.loop-p.p-index c.loop-p.left.now c.loop-p.base c.loop-p.session (h.passed files told script is) (omega (arith, c.loop-p-test.false)))
    count (subst (λ (t : List ℕ). DepartsIn c.loop-p.left.now t count) c.report.ensures (c.behind.ensures.departs count (same_error _ _ _ _ c.from_residual-in_err-left-2.ensures.1 c.in_err-left-2.was err)))

pub returns-in_err-left-2-clause-within : goal.returns-in_err-left-2-clause-within
returns-in_err-left-2-clause-within g c = λ count err.
    let here = c.behind.ensures.within count (same_error _ _ _ _ c.from_residual-in_err-left-2.ensures.1 c.in_err-left-2.was err) in
    omega (arith, here, c.loop-p.invariant.shorter)

pub returns-then-is_empty-clause-lawful : goal.returns-then-is_empty-clause-lawful
returns-then-is_empty-clause-lawful g c = λ files told script is.
    let h = c.loop-p.invariant in
    whole-end files (rules_of c.args.words) (map (λ b. g.C.Collector.tally b) c.args.boxes.items) c.args.recorded.now c.args.placed.now c.loop-p.left.now c.loop-p.base c.loop-p.session
    (turns-over files (rules_of c.args.words) (map (λ b. g.C.Collector.tally b) c.args.boxes.items) c.args.recorded.now c.args.placed.now c.loop-p.p-index c.loop-p.left.now c.loop-p.base c.loop-p.session (h.passed files told script is) (omega (arith, c.loop-p-test.false)))
    c.in_ok-left-2.left.now (c.in_ok-left-2.ensures.ok ∙ ap (λ (t : List ℕ). t ++ c.in_ok-left-2.left.now) c.report.ensures) (first_of (search rules, grind (arith, common_steps)))

pub returns-clause-departs : goal.returns-clause-departs
returns-clause-departs g c = λ files told script is count err.
    let h = c.loop-p.invariant in
    let count_is : length c.in_ok-left-2.left.now ≡ count = same-count _ count err in
    let some : 0 < length c.in_ok-left-2.left.now = first_of (search rules, grind (arith, common_steps)) in
    subst (λ (n : ℕ). (n ≤ length c.args.recorded.now) × DepartsAt files (rules_of c.args.words) (map (λ b. g.C.Collector.tally b) c.args.boxes.items) c.args.placed.now c.args.recorded.now (length c.args.recorded.now - n)) count_is
    (whole-past files (rules_of c.args.words) (map (λ b. g.C.Collector.tally b) c.args.boxes.items) c.args.recorded.now c.args.placed.now c.loop-p.left.now c.loop-p.base c.loop-p.session
    (turns-over files (rules_of c.args.words) (map (λ b. g.C.Collector.tally b) c.args.boxes.items) c.args.recorded.now c.args.placed.now c.loop-p.p-index c.loop-p.left.now c.loop-p.base c.loop-p.session (h.passed files told script is) (omega (arith, c.loop-p-test.false)))
    c.in_ok-left-2.left.now (c.in_ok-left-2.ensures.ok ∙ ap (λ (t : List ℕ). t ++ c.in_ok-left-2.left.now) c.report.ensures) some)

pub returns-clause-within : goal.returns-clause-within
returns-clause-within g c = λ count err.
    let count_is : length c.in_ok-left-2.left.now ≡ count = same-count _ count err in
    omega (arith, count_is, c.in_ok-left-2.ensures.shorter, c.loop-p.invariant.shorter)
