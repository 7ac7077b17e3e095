use Rattle.std.proofs.Common.{◌∙◌, ap}
use Rattle.std.specs.Arc.{arc_value}
use Rattle.version_publisher.specs.Contents.{items_in}
use Rattle.run_audit.proofs.BaseSteps.{items-push}
use Rattle.run_audit.proofs.merging.push_part.Goals as goal

pub returns-in-Ok-clause-games : goal.returns-in-Ok-clause-games
returns-in-Ok-clause-games c = ap items_in (rw c.in-Ok.is at c.push.ensures).1 ∙ items-push c.args.version.now.parts (arc_value c.args.part)
