use Rattle.std.proofs.Common.{◌≡◌, ◌∙◌, ◌≤◌, ◌+◌, [], ap, arith, false, refl, rules, subst}
use Rattle.std.proofs.lemmas.Grind.{common_steps}
use Rattle.import_work.specs.Imports.{games_reported}
use Rattle.import_work.specs.declared.report.ReportBody.{ReportBody}
use Rattle.import_work.specs.declared.source.Source.TheVariants as source
use Rattle.run_audit.specs.Importing.{ImportsBy}
use Rattle.run_audit.proofs.ImportSteps.{is-step, left-smaller, made-end, made-last, made-line, made-more, made-reported, made-room, made-source, made-start, made-version}
use Rattle.run_audit.proofs.made.import_made.Goals as goal

pub loop-import-init : goal.loop-import-init
loop-import-init g c = record {
  unasked = refl;
  made =
      made-start (g.F.Folder.files c.args.folder.now) c.args.batch c.args.games c.args.start c.args.line c.args.base.now c.open_made-import.result (g.F.Folder.faults c.args.folder.now) c.requires.fits
      (rw c.counts.ensures at rw c.last.ensures at c.open_made-import.ensures.opened) c.open_made-import.ensures.listed;
}

pub returns-in_err-segment-clause-unasked : goal.returns-in_err-segment-clause-unasked
returns-in_err-segment-clause-unasked g c = c.step.ensures.unasked c.args.games c.args.start (made-source _ c.args.batch c.args.games c.args.start c.args.line c.requires.some c.args.base.now c.loop-import.base c.loop-import.import _ c.loop-import.invariant.made) ∙ c.loop-import.invariant.unasked

pub add-requires-clause-number : goal.add-requires-clause-number
add-requires-clause-number g c =
    let same : c.step.new.folder ≡ c.args.folder.now = c.step.ensures.unasked c.args.games c.args.start (made-source _ c.args.batch c.args.games c.args.start c.args.line c.requires.some c.args.base.now c.loop-import.base c.loop-import.import _ c.loop-import.invariant.made) ∙ c.loop-import.invariant.unasked in
    made-room _ c.args.batch c.args.games c.args.start c.args.line c.requires.some c.args.base.now c.loop-import.base c.loop-import.import _ c.loop-import.invariant.made c.in-Some.segment c.step.new.self (is-step (ap g.F.Folder.files c.loop-import.invariant.unasked) (ap g.F.Folder.faults c.loop-import.invariant.unasked) (ap g.F.Folder.faults same) (rw c.in-Some.is at c.in_ok-segment.ensures.step)) c.requires.number

pub loop-import-smaller : goal.loop-import-smaller
loop-import-smaller g c = left-smaller _ c.args.batch c.loop-import.import c.step.new.self c.in-Some.segment _ _ c.requires.some (rw c.in-Some.is at c.in_ok-segment.ensures.step)

pub loop-import-preserved : goal.loop-import-preserved
loop-import-preserved g c =
    let same : c.step.new.folder ≡ c.args.folder.now = c.step.ensures.unasked c.args.games c.args.start (made-source _ c.args.batch c.args.games c.args.start c.args.line c.requires.some c.args.base.now c.loop-import.base c.loop-import.import _ c.loop-import.invariant.made) ∙ c.loop-import.invariant.unasked in record {
      unasked = same;
      made =
          made-more _ c.args.batch c.args.games c.args.start c.args.line c.requires.some c.args.base.now c.loop-import.base c.loop-import.import _ c.loop-import.invariant.made c.in-Some.segment c.step.new.self c.add.new.self (is-step (ap g.F.Folder.files c.loop-import.invariant.unasked) (ap g.F.Folder.faults c.loop-import.invariant.unasked) (ap g.F.Folder.faults same) (rw c.in-Some.is at c.in_ok-segment.ensures.step))
          (rw c.counts-in-Some.ensures at c.in_ok-add.ensures.added) c.in_ok-add.ensures.fits;
    }

pub returns-in_err-add-clause-unasked : goal.returns-in_err-add-clause-unasked
returns-in_err-add-clause-unasked g c = c.step.ensures.unasked c.args.games c.args.start (made-source _ c.args.batch c.args.games c.args.start c.args.line c.requires.some c.args.base.now c.loop-import.base c.loop-import.import _ c.loop-import.invariant.made) ∙ c.loop-import.invariant.unasked

pub returns-clause-imported : goal.returns-clause-imported
returns-clause-imported g c = λ all.
    let none : c.loop-import.import.left ≡ [] = first_of (search rules, grind (arith, common_steps)) in
    let told : c.loop-import.import.body ≡ c.finish.result.body = first_of (search rules, grind (arith, common_steps)) in
    subst (λ (b : ReportBody). ImportsBy all (source.Made c.args.games c.args.start) c.args.batch false (λ name. false) c.args.base.now c.loop-import.base b) told
    (made-end _ c.args.batch c.args.games c.args.start c.args.line c.requires.some c.args.base.now c.loop-import.base c.loop-import.import _ c.loop-import.invariant.made none all)

pub returns-clause-told : goal.returns-clause-told
returns-clause-told g c =
    let line : c.finish.result.line ≡ c.loop-import.import.line = first_of (search rules, grind (arith, common_steps)) in
    let version : c.finish.result.version ≡ c.loop-import.import.number + c.loop-import.import.given = first_of (search rules, grind (arith, common_steps)) in
    (line ∙ made-line _ c.args.batch c.args.games c.args.start c.args.line c.requires.some c.args.base.now c.loop-import.base c.loop-import.import _ c.loop-import.invariant.made, version ∙ made-version _ c.args.batch c.args.games c.args.start c.args.line c.requires.some c.args.base.now c.loop-import.base c.loop-import.import _ c.loop-import.invariant.made)

pub returns-clause-few : goal.returns-clause-few
returns-clause-few g c =
    let told : c.loop-import.import.body ≡ c.finish.result.body = first_of (search rules, grind (arith, common_steps)) in
    subst (λ (b : ReportBody). games_reported b ≤ 400000) told (made-reported _ c.args.batch c.args.games c.args.start c.args.line c.requires.some c.args.base.now c.loop-import.base c.loop-import.import _ c.loop-import.invariant.made)

pub returns-clause-last : goal.returns-clause-last
returns-clause-last g c = made-last _ c.args.batch c.args.games c.args.start c.args.line c.requires.some c.args.base.now c.loop-import.base c.loop-import.import _ c.loop-import.invariant.made
