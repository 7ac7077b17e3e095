use Rattle.std.proofs.Common.{◌∙◌, arith, refl}
use Rattle.std.proofs.lemmas.Result.{IfOk-weaker}
use Rattle.search_run.proofs.EndedImports.{ended, not_opened}
use Rattle.search_run.proofs.importer.publish_job.Goals as goal

pub returns-in-Err : goal.returns-in-Err
returns-in-Err g c = record {
  opened = refl;
  few = omega arith;
  limits = c.requires.limits;
  same = c.open_from.ensures.same;
  later = c.open_from.ensures.later;
  idle = tt;
  merged = tt;
  few_told = tt;
  ends = λ files here. tt;
  first = not_opened _ c.args.job.now c.args.publisher.now.log _ _ c.open_from.ensures.later;
}

pub returns : goal.returns
returns g c =
    let opened = c.in-Ok.ensures in
    ended (g.F.Folder.files c.args.folder.now) c.args.job.now c.requires.some c.args.publisher.now.log (g.F.Folder.faults c.args.folder.now) (g.F.Folder.faults c.open_from.new.folder) c.in-Ok.import
    (record {
      opened = rw c.number-number.ensures.value at opened.opened;
      listed = opened.listed;
      unlisted = opened.unlisted;
      counted = c.requires.counted;
      few = c.requires.few;
      later = c.open_from.ensures.later;
    })
    c.args.publisher.now.opening (g.F.Folder.files c.publish_import.new.folder) (g.F.Folder.faults c.publish_import.new.folder) c.publish_import.new.publisher c.publish_import.result
    c.publish_import.ensures.opening c.publish_import.ensures.few (c.publish_import.ensures.limits c.requires.limits) (c.publish_import.ensures.same ∙ c.open_from.ensures.same) c.publish_import.ensures.later
    (rw c.open_from.ensures.same at c.publish_import.ensures.first) (rw c.open_from.ensures.same at c.publish_import.ensures.all)
    (IfOk-weaker c.publish_import.result _ _ (λ r keeps. keeps c.requires.merged) c.publish_import.ensures.stays_merged)
