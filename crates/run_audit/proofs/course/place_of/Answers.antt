use Rattle.std.proofs.Common.{◌∙◌, ap, arith, sym}
use Rattle.run_audit.specs.declared.course.ShownImport.{ShownImport}
use Rattle.run_audit.proofs.PlaceSteps.{high-next, low-next, none-other, none-past}
use Rattle.run_audit.proofs.course.place_of.Goals.{else-low-shown-via-then-low-shown+else-from-line-2, else-low-shown-via-else-low-shown}
use Rattle.run_audit.proofs.course.place_of.Goals as goal

pub loop-low-preserved-then-from-line : goal.loop-low-preserved-then-from-line
loop-low-preserved-then-from-line c = record {
  between = omega (arith, c.loop-low-test.true);
  most = c.loop-low.invariant.most;
  before = low-next c.args.shown.now _ c.args.line c.index-shown-middle.result (sym c.index-shown-middle.is) (omega (arith, c.loop-low-test.true, c.loop-low.invariant.most)) (omega (arith, c.from.ensures, c.if-from-line.true, ap (λ (s : ShownImport). s.line) c.index-shown-middle.is));
  behind = c.loop-low.invariant.behind;
}

pub loop-low-preserved : goal.loop-low-preserved
loop-low-preserved c = record {
  between = omega (arith, c.loop-low-test.true);
  most = omega (arith, c.loop-low-test.true, c.loop-low.invariant.most);
  before = c.loop-low.invariant.before;
  behind = high-next c.args.shown.now _ c.args.line c.index-shown-middle.result (sym c.index-shown-middle.is) (omega (arith, c.loop-low-test.true, c.loop-low.invariant.most)) (omega (arith, c.from.ensures, c.if-from-line.false, ap (λ (s : ShownImport). s.line) c.index-shown-middle.is));
}

pub returns-clause-none : goal.returns-clause-none
returns-clause-none c = λ none ascending.
    let h = c.loop-low.invariant in
    elim c.else-low-shown.branch [
      | else-low-shown-via-then-low-shown+else-from-line-2 w ↦
          none-other c.args.shown.now c.loop-low.low c.args.line w.index-shown-low.result (sym w.index-shown-low.is) (omega (arith, w.if-low-shown.true)) (λ e. w.if-from-line-2.false (w.from-then-low-shown.ensures ∙ ap (λ (s : ShownImport). s.line) (sym w.index-shown-low.is) ∙ e))
          (h.before ascending) (λ k d behind below. h.behind ascending k d (omega (arith, c.loop-low-test.false, behind)) below) ascending
      | else-low-shown-via-else-low-shown w ↦ none-past c.args.shown.now c.loop-low.low c.args.line (omega (arith, w.if-low-shown.false)) (h.before ascending)
    ]
