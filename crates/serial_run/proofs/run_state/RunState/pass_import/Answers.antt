use Rattle.std.proofs.Common.{◌∙◌, ◌++◌, List, ap, sym, ℕ}
use Rattle.std.specs.Prelude.{Vec}
use Rattle.std.specs.declared.alloc.Global.{Global}
use Rattle.std.specs.Option.{option_map}
use Rattle.import_work.specs.declared.report.Report.{Report}
use Rattle.import_work.specs.Log.{games_of_segments}
use Rattle.import_segments.proofs.PushedSegments.{games_pushed}
use Rattle.session_core.specs.ImportTexts.{told_text}
use Rattle.serial_run.proofs.ImportReports.{few_taken, few_told, leads}
use Rattle.serial_run.proofs.run_state.RunState.pass_import.Goals as goal

pub print_report-requires : goal.print_report-requires
print_report-requires g c =
    let e = c.in_ok-take_segments.ensures in
    rw c.finish-report.ensures
    (few_told _ c.args.batch c.requires.some c.args.source.now c.args.line c.number-number.result c.self.inside.counts _ _ _ _ _ _ c.in_ok-import.ensures.opened c.in_ok-import.ensures.listed e.taken e.counted e.few)

pub returns-clause-version : goal.returns-clause-version
returns-clause-version g c =
    rw (← c.self.view_is)
    (few_taken _ c.args.batch c.requires.some c.args.source.now c.args.line c.number-number.result c.self.inside.counts _ _ _ _ _ _ c.in_ok-import.ensures.opened c.in_ok-import.ensures.listed c.in_ok-take_segments.ensures.taken)

pub returns-clause-passed : goal.returns-clause-passed
returns-clause-passed g c = λ files told. λ text.
    let kept = c.self.inside in
    let opened = c.in_ok-import.ensures in
    let taken = c.in_ok-take_segments.ensures in
    let written = c.in_ok-print_report.ensures.ok
    ∙ ap (λ (t : List ℕ). t ++ told_text c.finish-report.result.line c.finish-report.result.body c.finish-report.result.version) c.new-text.ensures.items
    ∙ ap (λ (r : Report). told_text r.line r.body r.version) c.finish-report.ensures in
    rw (← c.self.view_is)
    (leads _ c.args.batch c.requires.some c.args.source.now c.args.line c.number-number.result kept.counts c.in_ok-import.import c.take_segments.new.import kept.version c.take_segments.new.version _ _ opened.opened opened.listed taken.taken files _ _ opened.same told (opened.told files told) opened.unlisted opened.later taken.later taken.ended (option_map (λ (report : Vec ℕ Global). report.items) kept.waiting) text c.print_report.new.out.items c.self.invariant.0 c.number-number.ensures written)

pub invariant_of-result : goal.invariant_of-result
invariant_of-result g c = (c.counts-counts.ensures ∙ c.in_ok-take_segments.ensures.counted, rw c.counts-counts.ensures c.in_ok-take_segments.ensures.few)

pub returns-clause-grown : goal.returns-clause-grown
returns-clause-grown g c =
    let taken = c.in_ok-take_segments.ensures.taken in
    rw (← c.self.view_is) (games_of_segments taken.segments, sym (games_pushed c.self.inside.version c.take_segments.new.version taken.segments taken.pushed))
