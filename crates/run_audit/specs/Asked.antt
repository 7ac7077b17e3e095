-- Which statements name a version, by what a session keeps, and the least one that they may name.
use Rattle.std.specs.Prelude.{◌≡◌, ℕ, Bool, IsSome, None}
use Rattle.query_script.specs.declared.statement.Statement.{Statement}
use Rattle.query_script.specs.declared.statement.Statement.TheVariants as statement
use Rattle.session_core.specs.SessionState.{SessionState}
use Rattle.session_core.specs.Watches.{IsFree, IsWatch}
use Rattle.run_audit.specs.Guided.{asked_by}
use Rattle.run_audit.specs.Standing.{Kept, least_awaited, least_named}

-- The text of the statement names a version behind what it asks. One that watches a search does where
-- the name is free, and one that tells a watched search where one is watched under the name.
abbrev pub HasNumber : SessionState → Statement → Type 0
HasNumber session (statement.Watch name query filter) = IsFree name session.watches
HasNumber session (statement.Watched name) = IsWatch name session.watches
HasNumber session other = IsSome (asked_by other)

-- the text of the statement names none
abbrev pub HasNoNumber : SessionState → Statement → Type 0
HasNoNumber session (statement.Watch name query filter) = IsWatch name session.watches
HasNoNumber session (statement.Watched name) = IsFree name session.watches
HasNoNumber session other = asked_by other ≡ None

-- the least number that the statement may name
abbrev pub least_asked : Bool → Kept → Statement → ℕ
least_asked serial kept (statement.Until number) = least_awaited serial kept number
least_asked serial kept other = least_named serial kept
