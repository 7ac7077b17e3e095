-- The next statement begins an import: what it leaves of the base, and what the record shows of it.
use Rattle.std.proofs.Common.{◌≡◌, ℕ, List, All, Option, Some, None, refl, sym, ap, subst, arith}
use Rattle.std.specs.Borrow.{Bor}
use Rattle.std.specs.Prelude.{Contains, IfSome, unwrap_or}
use Rattle.std.proofs.lemmas.List.Elements.{All-contains}
use Rattle.node_position.specs.Games.{Game}
use Rattle.version_publisher.specs.declared.state.VersionState.{VersionState}
use Rattle.query_script.specs.declared.statement.Placed.{Placed}
use Rattle.query_script.specs.declared.statement.Statement.TheVariants as statement
use Rattle.import_work.specs.Log.{Segment}
use Rattle.import_work.specs.declared.outcome.Counts.{Counts}
use Rattle.import_work.specs.declared.source.Source.{Source}
use Rattle.import_work.specs.declared.source.Source.TheVariants as source
use Rattle.session_core.specs.SessionState.{SessionState}
use Rattle.session_core.specs.Sources.{statement_of}
use Rattle.run_audit.specs.Courses.{AreAscending, IsAmongShown, IsNoneAt, ShowsImport}
use Rattle.run_audit.specs.Importing.{IsShownBy}
use Rattle.run_audit.specs.Standing.{FitsFloor, IsJoined, Kept, kept_last, kept_of}
use Rattle.run_audit.specs.declared.course.ShownImport.{ShownImport}
use Rattle.run_audit.proofs.BaseSteps.{raised-last}
use Rattle.run_audit.proofs.KeptStates.{raised-watched}

-- ---- the import before it is joined

joined_counts : (held : VersionState Game) (ahead : List Segment) (counts : Counts) (waiting : Option (List ℕ)) (after : Kept) → IsJoined (kept_of held ahead counts waiting) after → after.counts ≡ counts
joined_counts held ahead counts None after same = ap (λ (k : Kept). k.counts) same
joined_counts held ahead counts (Some report) after raised = raised.counts

-- the counts stay
pub joined-counts : (before after : Kept) → IsJoined before after → after.counts ≡ before.counts
joined-counts before after joined = joined_counts before.held before.ahead before.counts before.waiting after joined

joined_last : (held : VersionState Game) (ahead : List Segment) (counts : Counts) (waiting : Option (List ℕ)) (after : Kept) → IsJoined (kept_of held ahead counts waiting) after → kept_last after ≡ kept_last (kept_of held ahead counts waiting)
joined_last held ahead counts None after same = ap kept_last same
joined_last held ahead counts (Some report) after raised =
    raised-last (kept_of held ahead counts None) after (kept_last (kept_of held ahead counts None)) (omega arith) raised

-- so does the last version
pub joined-last : (before after : Kept) → IsJoined before after → kept_last after ≡ kept_last before
joined-last before after joined = joined_last before.held before.ahead before.counts before.waiting after joined

joined_floor : (held : VersionState Game) (ahead : List Segment) (counts : Counts) (waiting : Option (List ℕ)) (after : Kept) (session : SessionState) → IsJoined (kept_of held ahead counts waiting) after → FitsFloor (kept_of held ahead counts waiting) session → FitsFloor after session
joined_floor held ahead counts None after session same fit = subst (λ (k : Kept). FitsFloor k session) (sym same) fit
joined_floor held ahead counts (Some report) after session raised fit =
    raised-watched (kept_of held ahead counts None) after (kept_last (kept_of held ahead counts None)) session session raised refl fit

-- the watched searches fit the version at the floor then too
pub joined-floor : (before after : Kept) (session : SessionState) → IsJoined before after → FitsFloor before session → FitsFloor after session
joined-floor before after session joined fit = joined_floor before.held before.ahead before.counts before.waiting after session joined fit

-- and when segments were added behind it
pub held-floor : (before after : Kept) (session : SessionState) → after.held ≡ before.held → FitsFloor before session → FitsFloor after session
held-floor before after session same fit = subst (λ (v : VersionState Game). FitsFloor (kept_of v after.ahead after.counts after.waiting) session) (sym same) fit

-- ---- what is kept of the import is what the record shows of it

module _ (p : Placed) (recorded : List ℕ) (shown : List ShownImport) (each : All (ShowsImport recorded) shown) (among : IsAmongShown p shown) (other : Bor ShownImport) where
  abbrev IsShownAt : Bor ShownImport → Type 0
  IsShownAt one = (one.now.line ≡ p.line) × ShowsImport recorded one.now

  shown_under : (path : List ℕ) (found : Option (Bor ShownImport)) → p.statement ≡ statement.Import path → IfSome found (λ (s : Bor ShownImport). (s.now.line ≡ p.line) × Contains shown s.now) → (found ≡ None → AreAscending shown → IsNoneAt p.line shown) → IsShownAt (unwrap_or found other)
  shown_under path (Some s) own there none = (there.0, All-contains (ShowsImport recorded) shown s.now each there.1)
  shown_under path None own there none =
      let at = among.among path own in
      absurd (All-contains (λ (s : ShownImport). s.line ≡ p.line → ⊥) shown at.0 (none refl among.ascending) at.1 at.2)

  shown_by : (from : Source) (found : Option (Bor ShownImport)) → p.statement ≡ statement_of from → IfSome found (λ (s : Bor ShownImport). (s.now.line ≡ p.line) × Contains shown s.now) → (found ≡ None → AreAscending shown → IsNoneAt p.line shown)
      → IsShownBy from p.line recorded (unwrap_or found other).now
  shown_by (source.Under path) found own there none = shown_under path found own there none
  shown_by (source.Made games start) found own there none = tt

  pub shown-by : (from : Source) (found : Option (Bor ShownImport)) (one : Bor ShownImport) → p.statement ≡ statement_of from → IfSome found (λ (s : Bor ShownImport). (s.now.line ≡ p.line) × Contains shown s.now) → (found ≡ None → AreAscending shown → IsNoneAt p.line shown)
      → one ≡ unwrap_or found other → IsShownBy from p.line recorded one.now
  shown-by from found one own there none is = subst (λ (b : Bor ShownImport). IsShownBy from p.line recorded b.now) (sym is) (shown_by from found own there none)
