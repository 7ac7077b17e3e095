-- A guided output is lawful, by the course that the record shows.
use Rattle.std.proofs.Common.{ℕ, List, [], ◌∷◌, length, drop, codes}
use Rattle.kb_edges.specs.Files.{File}
use Rattle.query_script.specs.declared.statement.Placed.{Placed}
use Rattle.query_script.specs.declared.statement.PlacedSearch.{PlacedSearch}
use Rattle.query_script.specs.declared.statement.Statement.{Statement}
use Rattle.query_script.specs.declared.statement.Statement.TheVariants as statement
use Rattle.hit_collectors.specs.Tallies.{BoxTally}
use Rattle.import_work.specs.Course.{ImportCourse}
use Rattle.session_core.specs.Lawful.{AreSearched, HasPrinted, IsLawful, IsNamed, IsPassed, Rules, State}
use Rattle.session_core.specs.SessionState.{SessionState}
use Rattle.run_audit.specs.Guided.{AreGuidedSearches, HasGuided, IsGuidedBy, IsGuidedPass, left_at_number}
use Rattle.run_audit.proofs.ChosenNumbers.{chosen-allowed}

module _ (files : List File) (rules : Rules) (recorded : List ℕ) where
  pub searches-lawful : (s : State) (left : List ℕ) (searches : List PlacedSearch) (session : SessionState) (greatest : ℕ) (text : List ℕ) (after : SessionState) → AreGuidedSearches rules s left searches session greatest text after → AreSearched rules s searches session greatest text after
  searches-lawful s left [] session greatest text after h = h
  searches-lawful s left (p ∷ ps) session greatest text after h =
      (h.0, h.1, h.2, h.3, h.4, chosen-allowed (IsNamed rules s) (left_at_number p.line (codes "search") left) h.0 h.5, h.6, searches-lawful s (drop (length h.1) left) ps h.2 h.3 h.4 after h.7, h.8, h.9)

  pub pass-lawful : (s next : State) (left : List ℕ) (line : ℕ) (own : Statement) (used : List ImportCourse) (text : List ℕ) → IsGuidedPass files rules recorded s left line own used text next → IsPassed files rules s line own used text next
  pass-lawful s next left line (statement.Together searches) used text h = (h.0, h.1, searches-lawful s left searches s.session h.0 text h.1 h.2, h.3, h.4)
  pass-lawful s next left line (statement.Import path) used text h = h.0
  pass-lawful s next left line (statement.Make games start) used text h = h.0
  pass-lawful s next left line statement.Wait used text h = h.0
  pass-lawful s next left line (statement.Until number) used text h = h.0
  pass-lawful s next left line (statement.Search query filter) used text h = h.0
  pass-lawful s next left line (statement.Kept query) used text h = h.0
  pass-lawful s next left line (statement.Signature pattern) used text h = h.0
  pass-lawful s next left line statement.Players used text h = h.0
  pass-lawful s next left line statement.Doubles used text h = h.0
  pass-lawful s next left line (statement.Game number) used text h = h.0
  pass-lawful s next left line (statement.Opening shape depth least) used text h = h.0
  pass-lawful s next left line (statement.Watch name query filter) used text h = h.0
  pass-lawful s next left line (statement.Watched name) used text h = h.0
  pass-lawful s next left line statement.Report used text h = h.0
  pass-lawful s next left line (statement.Retire name) used text h = h.0

  pub guided-printed : (boxes : List BoxTally) (course : List ImportCourse) (placed : List Placed) (s : State) (out : List ℕ) → HasGuided files rules boxes recorded course placed s out → HasPrinted files rules boxes course placed s out
  guided-printed boxes _ _ _ _ HasGuided.nothing = HasPrinted.nothing
  guided-printed boxes _ _ _ _ (HasGuided.one_more {course} {placed} {s} {out} used p next text so_far is) =
      HasPrinted.one_more used p next text (guided-printed boxes course placed s out so_far) (pass-lawful s next (drop (length out) recorded) p.line p.statement used text is)

pub guided-lawful : (files : List File) (rules : Rules) (boxes : List BoxTally) (placed : List Placed) (recorded : List ℕ) (course : List ImportCourse) (guided : List ℕ) → IsGuidedBy files rules boxes placed recorded course guided → IsLawful files rules boxes course placed guided
guided-lawful files rules boxes placed recorded course guided (s, text, printed, is) = (s, text, guided-printed files rules recorded boxes course placed s text printed, is)
