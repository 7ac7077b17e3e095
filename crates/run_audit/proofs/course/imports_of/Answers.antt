use Rattle.std.proofs.Common.{◌≡◌, ◌∙◌, ◌<◌, ◌^◌, All, Global, Vec, ap, false, subst, sym}
use Rattle.std.proofs.lemmas.List.Elements.{All-push}
use Rattle.run_audit.specs.Courses.{AreNumbered, nothing_seen, seen_of}
use Rattle.run_audit.specs.declared.course.ShownImport.{ShownImport}
use Rattle.run_audit.proofs.CourseEnds.{import-listed, none-listed}
use Rattle.run_audit.proofs.course.imports_of.Goals.{in-Import+in_ok-push, in_default}
use Rattle.run_audit.proofs.course.imports_of.Goals as goal

pub loop-p-preserved : goal.loop-p-preserved
loop-p-preserved c =
    let h = c.loop-p.invariant in
    let placed = c.args.placed.now in
    let shown = c.loop-p.shown.items in
    let after = c.match-p.shown.items in
    elim c.match-p.branch [
      | in-Import+in_ok-push w ↦
          let after_is = ap (λ (v : Vec ShownImport Global). v.items) w.shown-is ∙ w.in_ok-push.ensures.items in
          record {
            lines = import-listed placed c.loop-p.p-index c.p-item.result c.loop-p-test.true c.p-item.is shown after h.lines w.in-Import.path w.nothing.result w.in-Import.is w.nothing.ensures.line after_is;
            nothing = subst (All (λ (s : ShownImport). seen_of s false ≡ nothing_seen)) (sym after_is) (All-push (λ (s : ShownImport). seen_of s false ≡ nothing_seen) shown w.nothing.result h.nothing w.nothing.ensures.nothing);
            numbered = subst AreNumbered (sym after_is) (All-push (λ (s : ShownImport). s.line < 2 ^ 64) shown w.nothing.result h.numbered w.nothing.ensures.numbered);
          }
      | in_default w ↦
          let after_is = ap (λ (v : Vec ShownImport Global). v.items) w.shown-is in
          record {
            lines = none-listed placed c.loop-p.p-index c.p-item.result c.loop-p-test.true c.p-item.is shown after h.lines w.in_default.not-Import after_is;
            nothing = subst (All (λ (s : ShownImport). seen_of s false ≡ nothing_seen)) (sym after_is) h.nothing;
            numbered = subst AreNumbered (sym after_is) h.numbered;
          }
    ]
