use Rattle.version_publisher.proofs.RuleSteps.{reads_are_published}
use Rattle.version_publisher.proofs.publisher.Publisher.reads_are_published.Goals as goal

pub returns : goal.returns
returns g c = reads_are_published g.row.P-Item.Denot g.P.Part.MOST
