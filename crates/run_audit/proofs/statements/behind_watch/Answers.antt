use Rattle.std.proofs.Common.{◌≡◌, ◌∙◌, ◌++◌, ℕ, List, Option, Some, None, ap, subst}
use Rattle.query_script.specs.declared.statement.Statement.{Statement}
use Rattle.session_core.specs.Answers.{ChangesUnfed, IsAnsweredUnfed, View}
use Rattle.session_core.specs.SessionState.{SessionState}
use Rattle.session_core.specs.Stores.{view_of}
use Rattle.session_core.specs.declared.watches.NewHits.{NewHits}
use Rattle.session_core.proofs.OneAnswer.{answer-unique}
use Rattle.run_audit.specs.Standing.{DepartsIn}
use Rattle.run_audit.proofs.Departures.{same_error}
use Rattle.run_audit.proofs.statements.behind_watch.Goals as goal

-- the boxes stay until they are given the hits
boxes-unfed : (view : View) (own : Statement) (session after : SessionState) (new : Option NewHits) → ChangesUnfed view own session after new → after.boxes ≡ session.boxes
boxes-unfed view own session after None same = ap (λ (s : SessionState). s.boxes) same
boxes-unfed view own session after (Some new) changed = ap (λ (s : SessionState). s.boxes) changed.1

-- the same of a text that was told
boxes-told : (line : ℕ) (view : View) (session : SessionState) (own : Statement) (text : List ℕ) (after : SessionState) (new : Option NewHits) →
    IsAnsweredUnfed line view session own text after new → after.boxes ≡ session.boxes
boxes-told line view session own text after new told = boxes-unfed view own session after new told.changed

pub returns-in_err-left-clause-unfed : goal.returns-in_err-left-clause-unfed
returns-in_err-left-clause-unfed g c = λ count is. boxes-told _ _ _ _ _ _ _ c.in_ok-new.ensures.ok.1

pub returns-in_err-left-clause-departs : goal.returns-in_err-left-clause-departs
returns-in_err-left-clause-departs g c = λ count is trees text after of.
    let told = c.in_ok-new.ensures.ok in
    let one = answer-unique c.args.placed.now.line (view_of c.args.version.now) trees c.args.session.now c.args.placed.now.statement told.0 text _ after told.1.answered of in
    subst (λ t. DepartsIn c.args.left.now t count) (c.deref.ensures.value ∙ told.2 ∙ ap (λ l. l ++ told.0) c.new-text.ensures.items ∙ one.0)
    (c.behind.ensures.departs count (same_error _ _ _ _ c.from_residual-in_err-left.ensures.1 c.in_err-left.was is))

pub returns-in_err-left-clause-within : goal.returns-in_err-left-clause-within
returns-in_err-left-clause-within g c = λ count is.
    c.behind.ensures.within count (same_error _ _ _ _ c.from_residual-in_err-left.ensures.1 c.in_err-left.was is)
