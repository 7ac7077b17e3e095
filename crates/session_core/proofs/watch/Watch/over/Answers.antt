use Rattle.std.proofs.Common.{ap, ◌∙◌, subst, sym}
use Rattle.version_publisher.specs.Contents.{items_in}
use Rattle.search_engine.specs.Hits.{AreHits}
use Rattle.session_core.specs.SessionState.{Watched}
use Rattle.session_core.specs.Watches.{IsWatchOf, covering}
use Rattle.session_core.proofs.WatchLemmas.{watch-none}
use Rattle.session_core.proofs.watch.Watch.over.Goals as goal

pub advance-requires : goal.advance-requires
advance-requires c =
    let games = items_in c.args.version.now.parts in
    subst (IsWatchOf games) (sym c.in_ok-watch.ensures) (watch-none c.args.wanted.name.now c.args.wanted.query.now c.args.wanted.filter.now games)

pub returns-clause-covers : goal.returns-clause-covers
returns-clause-covers c =
    let now = c.advance.new.self in
    c.in_ok-advance.ensures.ok.after_is ∙ ap (λ (w : Watched). covering w (items_in c.args.version.now.parts) now.hits) c.in_ok-watch.ensures

pub returns-clause-hits : goal.returns-clause-hits
returns-clause-hits c =
    let now = c.advance.new.self in
    subst (λ (w : Watched). AreHits w.query w.filter (items_in c.args.version.now.parts) now.hits) c.in_ok-watch.ensures c.in_ok-advance.ensures.ok.are_hits
