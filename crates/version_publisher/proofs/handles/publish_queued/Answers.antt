use Rattle.std.proofs.Common.{sym, subst}
use Rattle.version_publisher.specs.Replicas.{content_of}
use Rattle.version_publisher.specs.Contents.{MayFollow}
use Rattle.version_publisher.proofs.RuleSteps.{publishes}
use Rattle.version_publisher.proofs.handles.publish_queued.Goals as goal

pub publish_as-requires : goal.publish_as-requires
publish_as-requires g c next is =
    let now = c.args.writer.desk.shown.value in
    publishes (content_of g.P.Part.items) g.P.Part.MOST _ _ now next (subst (MayFollow g.P.Part.MOST (content_of g.P.Part.items now)) (sym is) c.requires.follows) c.requires.known
