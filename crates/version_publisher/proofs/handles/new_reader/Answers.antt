use Rattle.std.proofs.Common.{ap}
use Rattle.version_publisher.specs.Replicas.{content_of}
use Rattle.version_publisher.proofs.RuleSteps.{admits, forks, merges}
use Rattle.version_publisher.proofs.handles.new_reader.Goals as goal

pub reader-requires : goal.reader-requires
reader-requires g c = admits (content_of g.P.Part.items) g.P.Part.MOST

pub tell-requires : goal.tell-requires
tell-requires g c = forks (content_of g.P.Part.items) g.P.Part.MOST _ _

pub learn-requires-clause-rule : goal.learn-requires-clause-rule
learn-requires-clause-rule g c = merges (content_of g.P.Part.items) g.P.Part.MOST _ _ _ _ (ap (λ v. v.published) c.tell.ensures.given.1)
