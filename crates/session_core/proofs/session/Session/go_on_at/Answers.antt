use Rattle.std.proofs.Common.{◌≡◌, ◌∙◌, ◌++◌, ℕ, List, All, Option, Some, ap, get_or, length, map, subst, sym}
use Rattle.std.proofs.lemmas.List.{with_items_is}
use Rattle.query_script.specs.declared.statement.Statement.TheVariants as statement
use Rattle.version_publisher.specs.Contents.{items_in}
use Rattle.session_core.specs.Answers.{ChangesUnfed, IsAnsweredUnfed}
use Rattle.session_core.specs.SessionState.{SessionState, Watched, session_of}
use Rattle.session_core.specs.Stores.{view_of}
use Rattle.session_core.specs.Watches.{IsWatchOf}
use Rattle.session_core.specs.Watching.{IsAdvancedAt, IsWatchAt}
use Rattle.session_core.specs.declared.watches.NewHits.{NewHits}
use Rattle.session_core.proofs.WatchSteps.{after_error, now-there, told-left, watch-told}
use Rattle.session_core.proofs.session.Session.go_on_at.Goals as goal

pub advance_at-requires-clause-within : goal.advance_at-requires-clause-within
advance_at-requires-clause-within g c = rw c.deref_mut.ensures.value (subst (λ (s : SessionState). IsWatchAt c.args.name.now s.watches c.args.at) (sym c.self.view_is) c.requires.at).within

pub advance_at-requires-clause-fit : goal.advance_at-requires-clause-fit
advance_at-requires-clause-fit g c = rw c.deref_mut.ensures.value (subst (λ (s : SessionState). All (IsWatchOf (items_in c.args.version.now.parts)) s.watches) (sym c.self.view_is) c.requires.fit)

pub returns-clause-ok : goal.returns-clause-ok
returns-clause-ok g c =
    let view = view_of c.args.version.now in
    let session = c.args.self.now in
    let name = c.args.name.now in
    let before = c.self.inside.watches in
    let watches = c.advance_at.new.watches in
    let new : NewHits = record { at = c.args.at; first = c.in_ok-first.first } in
    let old = c.args.out.now.items in
    let out = c.print_watched.new.out.items in
    let is = with_items_is before watches (c.advance_at.auto.watches ∙ ap length c.deref_mut.ensures.value ∙ sym before.ok.0) in
    let on = subst (λ (s : SessionState). IsAdvancedAt view.games c.args.at s.watches watches c.in_ok-first.first) c.self.view_is (rw c.deref_mut.ensures.value at c.in_ok-first.ensures.ok) in
    let there = now-there view.games c.args.at c.in_ok-first.first session.watches watches c.requires.at.within on in
    let place = c.index.result.now in
    let these =
    c.hits-hits.ensures
    ∙ ap (λ (w : Watched). w.hits) (c.index.ensures ∙ ap (λ (ws : List Watched). get_or ws c.args.at place) is ∙ there place) in
    subst (λ (ws : List Watched). (text : List ℕ) × IsAnsweredUnfed c.args.line view session (statement.Watched name) text (session_of (map (λ b. g.C.Collector.tally b) c.self.inside.boxes.items) ws) (Some new) × (out ≡ old ++ text)) (sym is)
    (subst (λ (s : SessionState). (text : List ℕ) × IsAnsweredUnfed c.args.line view session (statement.Watched name) text (session_of s.boxes watches) (Some new) × (out ≡ old ++ text)) (sym c.self.view_is)
    (watch-told c.args.line view name session watches c.args.at c.in_ok-first.first c.requires.at on
    c.hits-hits.result.now c.in_ok-table.table old out _ _ these c.in_ok-table.ensures c.number.ensures c.game_count.ensures.value c.in_ok-print_watched.ensures.ok))

pub returns-in_err-table-clause-left : goal.returns-in_err-table-clause-left
returns-in_err-table-clause-left g c =
    let view = view_of c.args.version.now in
    let session = c.args.self.now in
    let name = c.args.name.now in
    let before = c.self.inside.watches in
    let watches = c.advance_at.new.watches in
    let is = with_items_is before watches (c.advance_at.auto.watches ∙ ap length c.deref_mut.ensures.value ∙ sym before.ok.0) in
    let on = subst (λ (s : SessionState). IsAdvancedAt view.games c.args.at s.watches watches c.in_ok-first.first) c.self.view_is (rw c.deref_mut.ensures.value at c.in_ok-first.ensures.ok) in
    after_error _ _
    (subst (λ (ws : List Watched). (new : Option NewHits) × ChangesUnfed view (statement.Watched name) session (session_of (map (λ b. g.C.Collector.tally b) c.self.inside.boxes.items) ws) new) (sym is)
    (subst (λ (s : SessionState). (new : Option NewHits) × ChangesUnfed view (statement.Watched name) session (session_of s.boxes watches) new) (sym c.self.view_is)
    (told-left c.args.line view name session watches c.args.at c.in_ok-first.first c.requires.at on)))

pub returns-in_err-print_watched-clause-left : goal.returns-in_err-print_watched-clause-left
returns-in_err-print_watched-clause-left g c =
    let view = view_of c.args.version.now in
    let session = c.args.self.now in
    let name = c.args.name.now in
    let before = c.self.inside.watches in
    let watches = c.advance_at.new.watches in
    let is = with_items_is before watches (c.advance_at.auto.watches ∙ ap length c.deref_mut.ensures.value ∙ sym before.ok.0) in
    let on = subst (λ (s : SessionState). IsAdvancedAt view.games c.args.at s.watches watches c.in_ok-first.first) c.self.view_is (rw c.deref_mut.ensures.value at c.in_ok-first.ensures.ok) in
    after_error _ _
    (subst (λ (ws : List Watched). (new : Option NewHits) × ChangesUnfed view (statement.Watched name) session (session_of (map (λ b. g.C.Collector.tally b) c.self.inside.boxes.items) ws) new) (sym is)
    (subst (λ (s : SessionState). (new : Option NewHits) × ChangesUnfed view (statement.Watched name) session (session_of s.boxes watches) new) (sym c.self.view_is)
    (told-left c.args.line view name session watches c.args.at c.in_ok-first.first c.requires.at on)))
