use Rattle.std.proofs.Common.{subst, sym}
use Rattle.version_publisher.specs.Contents.{items_in}
use Rattle.session_core.specs.Watches.{IsWatchOf}
use Rattle.session_core.proofs.WatchSteps.{is-advanced}
use Rattle.session_core.proofs.watch.Watch.advance_counted.Goals as goal

pub advance-requires-clause-games : goal.advance-requires-clause-games
advance-requires-clause-games g c =
    (subst (IsWatchOf (items_in c.args.version.now.parts)) (sym c.self.view_is) c.requires.fits).covered

pub advance-requires-clause-hits : goal.advance-requires-clause-hits
advance-requires-clause-hits g c =
    (subst (IsWatchOf (items_in c.args.version.now.parts)) (sym c.self.view_is) c.requires.fits).are_hits

pub returns-clause-ok : goal.returns-clause-ok
returns-clause-ok g c =
    let inside = c.self.inside in
    let e = c.advance.ensures in
    rw (← c.self.view_is)
    (is-advanced c.advance.result inside.name inside.query inside.filter (items_in c.args.version.now.parts) inside.standing.games _ inside.standing.hits _
    e.games e.hits e.place e.earlier_hits e.new_hits)
