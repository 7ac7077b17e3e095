-- What holds of the states of a run whatever is kept of them.
use Rattle.std.proofs.Common.{◌≡◌, inl, inr, ℕ, ◌≤◌, List, [], ◌∷◌, Option, Some, None, refl, sym, ap, ◌∙◌, arith}
use Rattle.std.specs.Prelude.{max}
use Rattle.std.specs.Option.{option_map_or}
use Rattle.std.proofs.Math.Nat.{max-le}
use Rattle.std.proofs.lemmas.List.{append-nil}
use mathlib.Core.List.{IsPrefix}
use Rattle.kb_edges.specs.Files.{File}
use Rattle.query_script.specs.declared.statement.PlacedSearch.{PlacedSearch}
use Rattle.query_script.specs.declared.statement.Statement.{Statement}
use Rattle.query_script.specs.declared.statement.Statement.TheVariants as statement
use Rattle.import_work.specs.Course.{ImportCourse}
use Rattle.import_work.specs.Log.{Segment, segments_of}
use Rattle.import_work.specs.declared.source.Source.{Source}
use Rattle.import_work.specs.declared.source.Source.TheVariants as source
use Rattle.session_core.specs.Lawful.{AreSearched, IsNamed, IsPassed, OpensImport, Rules, State, last_of}
use Rattle.session_core.specs.SessionState.{SessionState}
use Rattle.session_core.specs.Sources.{IsNoImport, statement_of}

-- the last version may be named
pub last_named : (rules : Rules) (s : State) → s.floor ≤ last_of s → IsNamed rules s (last_of s)
last_named rules s floor = record { from = floor; to = omega arith; serial = λ one. refl }

-- the greatest number that a block names is at most the last version
pub greatest-le : (rules : Rules) (s : State) (searches : List PlacedSearch) (session after : SessionState) (greatest : ℕ) (text : List ℕ) → AreSearched rules s searches session greatest text after → greatest ≤ last_of s
greatest-le rules s [] session after greatest text h = rw h.0 (omega arith)
greatest-le rules s (p ∷ ps) session after greatest text h = rw h.8 (max-le h.5.to (greatest-le rules s ps h.2 after h.3 h.4 h.7))

-- a floor that is at most the last version
pub floor-named : (s : State) (n : ℕ) → s.floor ≤ last_of s → n ≤ last_of s → max s.floor n ≤ last_of s
floor-named s n floor named = max-le floor named

pub floor-joined : (waiting : Option (List ℕ)) (floor last : ℕ) → floor ≤ last → option_map_or (λ report. last) waiting floor ≤ last
floor-joined None floor last le = le
floor-joined (Some report) floor last le = omega arith

-- a statement that is no import leaves the log
pub log_kept : (rules : Rules) (files : List File) (s next : State) (line : ℕ) (own : Statement) (used : List ImportCourse) (text : List ℕ) → IsNoImport own → IsPassed files rules s line own used text next → next.log ≡ s.log
log_kept rules files s next line (statement.Import path) used text not of = absurd not
log_kept rules files s next line (statement.Make games start) used text not of = absurd not
log_kept rules files s next line statement.Wait used text not of = ap (λ (t : State). t.log) of.2
log_kept rules files s next line (statement.Until number) used text not of = ap (λ (t : State). t.log) of.4
log_kept rules files s next line (statement.Together searches) used text not of = ap (λ (t : State). t.log) of.4
log_kept rules files s next line (statement.Search query filter) used text not of = ap (λ (t : State). t.log) of.5
log_kept rules files s next line (statement.Kept query) used text not of = ap (λ (t : State). t.log) of.5
log_kept rules files s next line (statement.Signature pattern) used text not of = ap (λ (t : State). t.log) of.5
log_kept rules files s next line statement.Players used text not of = ap (λ (t : State). t.log) of.5
log_kept rules files s next line statement.Doubles used text not of = ap (λ (t : State). t.log) of.5
log_kept rules files s next line (statement.Game number) used text not of = ap (λ (t : State). t.log) of.5
log_kept rules files s next line (statement.Opening shape depth least) used text not of = ap (λ (t : State). t.log) of.5
log_kept rules files s next line statement.Report used text not of = ap (λ (t : State). t.log) of.2
log_kept rules files s next line (statement.Retire name) used text not of = ap (λ (t : State). t.log) of.3
log_kept rules files s next line (statement.Watch name query filter) used text not (inl of) = ap (λ (t : State). t.log) of.5
log_kept rules files s next line (statement.Watch name query filter) used text not (inr of) = ap (λ (t : State). t.log) of.3
log_kept rules files s next line (statement.Watched name) used text not (inl of) = ap (λ (t : State). t.log) of.5
log_kept rules files s next line (statement.Watched name) used text not (inr of) = ap (λ (t : State). t.log) of.3

-- it is the same, so one begins with the other
pub same_begins : (log now : List Segment) → now ≡ log → IsPrefix log now
same_begins log now same = ([], append-nil log ∙ sym same)

-- the log behind a statement begins with the one before it
pub log_grows : (rules : Rules) (files : List File) (s next : State) (line : ℕ) (own : Statement) (used : List ImportCourse) (text : List ℕ) → IsPassed files rules s line own used text next → IsPrefix s.log next.log
log_grows rules files s next line (statement.Import path) used text of = (segments_of rules.batch of.1, sym (ap (λ (t : State). t.log) of.5))
log_grows rules files s next line (statement.Make games start) used text of = (segments_of rules.batch of.1, sym (ap (λ (t : State). t.log) of.5))
log_grows rules files s next line statement.Wait used text of = same_begins s.log next.log (log_kept rules files s next line statement.Wait used text tt of)
log_grows rules files s next line (statement.Until number) used text of = same_begins s.log next.log (log_kept rules files s next line (statement.Until number) used text tt of)
log_grows rules files s next line (statement.Together searches) used text of = same_begins s.log next.log (log_kept rules files s next line (statement.Together searches) used text tt of)
log_grows rules files s next line (statement.Search query filter) used text of = same_begins s.log next.log (log_kept rules files s next line (statement.Search query filter) used text tt of)
log_grows rules files s next line (statement.Kept query) used text of = same_begins s.log next.log (log_kept rules files s next line (statement.Kept query) used text tt of)
log_grows rules files s next line (statement.Signature pattern) used text of = same_begins s.log next.log (log_kept rules files s next line (statement.Signature pattern) used text tt of)
log_grows rules files s next line statement.Players used text of = same_begins s.log next.log (log_kept rules files s next line statement.Players used text tt of)
log_grows rules files s next line statement.Doubles used text of = same_begins s.log next.log (log_kept rules files s next line statement.Doubles used text tt of)
log_grows rules files s next line (statement.Game number) used text of = same_begins s.log next.log (log_kept rules files s next line (statement.Game number) used text tt of)
log_grows rules files s next line (statement.Opening shape depth least) used text of = same_begins s.log next.log (log_kept rules files s next line (statement.Opening shape depth least) used text tt of)
log_grows rules files s next line statement.Report used text of = same_begins s.log next.log (log_kept rules files s next line statement.Report used text tt of)
log_grows rules files s next line (statement.Retire name) used text of = same_begins s.log next.log (log_kept rules files s next line (statement.Retire name) used text tt of)
log_grows rules files s next line (statement.Watch name query filter) used text of = same_begins s.log next.log (log_kept rules files s next line (statement.Watch name query filter) used text tt of)
log_grows rules files s next line (statement.Watched name) used text of = same_begins s.log next.log (log_kept rules files s next line (statement.Watched name) used text tt of)

module _ (files : List File) (rules : Rules) (s : State) (line : ℕ) where
  -- a statement that begins an import is passed so
  pub opens-passed : (from : Source) (used : List ImportCourse) (text : List ℕ) (next : State) → OpensImport files rules s line from used text next → IsPassed files rules s line (statement_of from) used text next
  opens-passed (source.Under path) used text next of = of
  opens-passed (source.Made games start) used text next of = of
