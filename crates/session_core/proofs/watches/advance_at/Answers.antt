use Rattle.std.proofs.lemmas.Result.{IfOk-weaker}
use Rattle.version_publisher.specs.Contents.{items_in}
use Rattle.session_core.proofs.WatchSteps.{advanced-at, stays-at}
use Rattle.session_core.proofs.watches.advance_at.Goals as goal

pub advance-requires : goal.advance-requires
advance-requires c = c.requires.fit c.args.at c.index-watches-at.result c.requires.within

pub returns-clause-ok : goal.returns-clause-ok
returns-clause-ok c =
    IfOk-weaker c.advance.result _ _
    (λ first on. advanced-at (items_in c.args.version.now.parts) c.args.watches.now c.args.at first c.index-watches-at.result c.advance.new.self c.requires.within on)
    c.advance.ensures.ok

pub returns-clause-refused : goal.returns-clause-refused
returns-clause-refused c = stays-at c.advance.result c.args.watches.now c.args.at c.index-watches-at.result c.advance.new.self c.advance.ensures.refused
