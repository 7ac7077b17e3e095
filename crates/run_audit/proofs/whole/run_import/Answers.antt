use Rattle.std.proofs.Common.{◌≡◌, ◌∙◌, [], ap, refl}
use Rattle.run_audit.specs.Standing.{Kept, kept_last}
use Rattle.run_audit.proofs.ToldReports.{IsMadeBy, import-at, told-text}
use Rattle.run_audit.proofs.whole.run_import.Goals as goal
use Rattle.run_audit.proofs.whole.run_import.Goals.{in-Made+in_ok-report-in-Made, in-Under+in_ok-import_files-in-Under}

pub returns-clause-imported : goal.returns-clause-imported
returns-clause-imported g c = λ all told recorded is.
    let line_is : c.match-source.report.line ≡ c.args.line = elim c.match-source.branch [
      | in-Made+in_ok-report-in-Made w ↦ rw w.report-is w.in_ok-report-in-Made.ensures.told.0
      | in-Under+in_ok-import_files-in-Under w ↦ rw w.report-is refl
    ] in
    let version_is : c.match-source.report.version ≡ kept_last c.match-source.base = elim c.match-source.branch [
      | in-Made+in_ok-report-in-Made w ↦ rw (w.report-is, w.base-is) w.in_ok-report-in-Made.ensures.told.1
      | in-Under+in_ok-import_files-in-Under w ↦ rw (w.report-is, w.base-is) w.last.ensures
    ] in
    let made : IsMadeBy all c.args.batch recorded c.args.base.now c.match-source.base c.match-source.report.body c.args.source.now c.args.shown.now = elim c.match-source.branch [
      | in-Made+in_ok-report-in-Made w ↦ rw (w.report-is, w.base-is, w.in-Made.is) (w.in_ok-report-in-Made.ensures.imported all)
      | in-Under+in_ok-import_files-in-Under w ↦ rw (w.report-is, w.base-is, w.in-Under.is) (rw w.as_str.ensures at (w.in_ok-import_files-in-Under.ensures.imported all told recorded (rw w.in-Under.is at is).1))
    ] in
    let text = told-text c.args.line c.match-source.report.line c.match-source.report.body (kept_last c.match-source.base) c.match-source.report.version c.new-text.result.items c.print_report.new.out.items c.in_ok-print_report.ensures.ok c.new-text.ensures.items line_is version_is in
    import-at all c.args.batch recorded c.args.base.now c.match-source.base c.match-source.report.body c.args.source.now c.args.line c.args.shown.now c.wait_with.new.self c.print_report.new.out.items is made text c.wait_with.ensures.waits

pub returns-clause-held : goal.returns-clause-held
returns-clause-held g c =
    let held : c.match-source.base.held ≡ c.args.base.now.held = elim c.match-source.branch [
      | in-Made+in_ok-report-in-Made w ↦ rw w.base-is (w.in_ok-report-in-Made.ensures.imported []).held
      | in-Under+in_ok-import_files-in-Under w ↦ rw w.base-is w.in_ok-import_files-in-Under.ensures.held
    ] in
    ap (λ (k : Kept). k.held) c.wait_with.ensures.waits ∙ held
