use Rattle.std.proofs.Common.{ap}
use Rattle.import_segments.proofs.MergedParts.{merged_after, merged_still}
use Rattle.import_segments.proofs.PublishedSegments.{few_published, limits_kept, publishes_all, publishes_first}
use Rattle.import_segments.proofs.publish.publish_import.Goals as goal

pub returns-in_err-publish_segments-clause-first : goal.returns-in_err-publish_segments-clause-first
returns-in_err-publish_segments-clause-first g c =
    publishes_first _ c.args.batch c.requires.batch.0 c.args.import _ _ _ _ c.requires.opened c.requires.names c.in_err-publish_segments.ensures.published

pub returns-in_err-publish_segments-clause-limits : goal.returns-in_err-publish_segments-clause-limits
returns-in_err-publish_segments-clause-limits g c =
    limits_kept _ c.args.batch c.requires.batch.0 c.args.import _ _ _ _ c.requires.opened c.in_err-publish_segments.ensures.published

pub returns-in_err-publish_segments-clause-few : goal.returns-in_err-publish_segments-clause-few
returns-in_err-publish_segments-clause-few g c =
    few_published _ c.args.batch c.requires.batch.0 c.args.import _ _ _ _ c.requires.opened c.in_err-publish_segments.ensures.published

pub returns-clause-first : goal.returns-clause-first
returns-clause-first g c =
    publishes_first _ c.args.batch c.requires.batch.0 c.args.import _ _ _ _ c.requires.opened c.requires.names c.in_ok-publish_segments.ensures.published

pub returns-clause-all : goal.returns-clause-all
returns-clause-all g c = (
  c.in_ok-publish_segments.ensures.idle,
  publishes_all _ c.args.batch c.requires.batch.0 c.args.import _ _ _ _ c.requires.opened c.requires.names c.publish_segments.new.import c.finish.result c.in_ok-publish_segments.ensures.all
      (ap (λ r. r.line) c.finish.ensures) (ap (λ r. r.body) c.finish.ensures) (ap (λ r. r.version) c.finish.ensures),
)

pub returns-clause-limits : goal.returns-clause-limits
returns-clause-limits g c =
    limits_kept _ c.args.batch c.requires.batch.0 c.args.import _ _ _ _ c.requires.opened c.in_ok-publish_segments.ensures.published

pub returns-clause-few : goal.returns-clause-few
returns-clause-few g c =
    few_published _ c.args.batch c.requires.batch.0 c.args.import _ _ _ _ c.requires.opened c.in_ok-publish_segments.ensures.published

pub returns-clause-merged : goal.returns-clause-merged
returns-clause-merged g c = merged_after _ _ _ _ c.in_ok-publish_segments.ensures.parts

pub returns-clause-stays_merged : goal.returns-clause-stays_merged
returns-clause-stays_merged g c = merged_still _ _ _ _ c.in_ok-publish_segments.ensures.parts
