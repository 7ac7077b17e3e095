use Rattle.std.proofs.Common.{subst}
use Rattle.std.specs.Prelude.{IfSome}
use Rattle.session_core.specs.SessionState.{SessionState}
use Rattle.session_core.specs.Watching.{IsWatchAt}
use Rattle.session_core.proofs.WatchSteps.{is-watched}
use Rattle.session_core.proofs.session.Session.is_watched.Goals as goal

pub returns-clause-some : goal.returns-clause-some
returns-clause-some g c =
    is-watched c.find_watch.result c.is_some.result c.args.name.now c.args.self.now.watches c.is_some.ensures
    (subst (λ (s : SessionState). IfSome c.find_watch.result (λ at. IsWatchAt c.args.name.now s.watches at)) c.self.view_is (rw c.deref.ensures.value at c.find_watch.ensures.some))
