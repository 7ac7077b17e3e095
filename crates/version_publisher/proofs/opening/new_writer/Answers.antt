use Rattle.version_publisher.proofs.RuleSteps.{lawful_first}
use Rattle.version_publisher.proofs.opening.new_writer.Goals as goal

pub new-requires-clause-rule : goal.new-requires-clause-rule
new-requires-clause-rule g c = lawful_first g.P.Part.MOST _ _ _ c.empty_replica-first.ensures c.requires.empty
