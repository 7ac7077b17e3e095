use Rattle.std.proofs.Common.{◌∙◌, ap, length}
use Rattle.session_core.specs.SessionState.{SessionState}
use Rattle.session_core.specs.Stores.{view_of}
use Rattle.session_core.proofs.WatchSteps.{on_ok, watch-begun}
use Rattle.session_core.proofs.session.Session.begin_watch.Goals as goal

pub returns-clause-ok : goal.returns-clause-ok
returns-clause-ok g c =
    watch-begun c.args.line (view_of c.args.version.now) c.args.wanted.name.now c.args.wanted.query.now c.args.wanted.filter.now c.args.self.now c.in_ok-watch.watch
    (rw c.as_str.ensures at (c.is_watched.ensures.none c.if-is_watched.false)) c.in_ok-watch.ensures.covers c.in_ok-watch.ensures.hits
    c.add_watch-added.new.self c.len-at.result c.args.out.now.items c.cut_back.new.out.items c.number.result _
    (c.len-at.ensures ∙ c.self.inside.watches.ok.0 ∙ ap (λ (s : SessionState). length s.watches) c.self.view_is)
    c.number.ensures (ap length c.hits-count.ensures)
    (rw (c.in_ok-print_watch.ensures.ok, c.as_str-2.ensures) at c.in_ok-cut_back.ensures.ok)
    (on_ok c.in_ok-cut_back.field-0 c.add_watch-added.result _ c.in_ok-cut_back.ensures.same c.add_watch-added.ensures.ok)
