-- What a serial run prints is lawful also where imports go on beside the statements.
use Rattle.std.proofs.Common.{inl, inr, ℕ, false, List, [], ◌∷◌}
use Rattle.kb_edges.specs.Files.{File}
use Rattle.query_script.specs.declared.statement.Placed.{Placed}
use Rattle.query_script.specs.declared.statement.PlacedSearch.{PlacedSearch}
use Rattle.query_script.specs.declared.statement.Statement.{Statement}
use Rattle.query_script.specs.declared.statement.Statement.TheVariants as statement
use Rattle.hit_collectors.specs.Tallies.{BoxTally}
use Rattle.import_work.specs.Course.{ImportCourse}
use Rattle.session_core.specs.Lawful.{AreSearched, HasPrinted, IsLawful, IsNamed, IsPassed, Rules, State}
use Rattle.session_core.specs.SessionState.{SessionState}

-- the same files in a version, and statements may name earlier ones
abbrev pub rules_beside : ℕ → Rules
rules_beside batch = record { batch = batch; serial = false }

module _ (files : List File) (rules : Rules) where
  named-beside : (s : State) (n : ℕ) → IsNamed rules s n → IsNamed (rules_beside rules.batch) s n
  named-beside s n h = record { from = h.from; to = h.to; serial = λ one. absurd (cc one) }

  searched-beside : (s : State) (searches : List PlacedSearch) (session : SessionState) (greatest : ℕ) (text : List ℕ) (after : SessionState) → AreSearched rules s searches session greatest text after → AreSearched (rules_beside rules.batch) s searches session greatest text after
  searched-beside s [] session greatest text after h = h
  searched-beside s (p ∷ ps) session greatest text after h =
      (h.0, h.1, h.2, h.3, h.4, named-beside s h.0 h.5, h.6, searched-beside s ps h.2 h.3 h.4 after h.7, h.8, h.9)

  passed-beside : (s next : State) (line : ℕ) (own : Statement) (used : List ImportCourse) (text : List ℕ) → IsPassed files rules s line own used text next → IsPassed files (rules_beside rules.batch) s line own used text next
  passed-beside s next line (statement.Import path) used text of = of
  passed-beside s next line (statement.Make games start) used text of = of
  passed-beside s next line statement.Wait used text of = of
  passed-beside s next line (statement.Until number) used text of = (of.0, record { named = named-beside s of.0 of.1.named; reached = of.1.reached }, of.2, of.3, of.4)
  passed-beside s next line (statement.Together searches) used text of = (of.0, of.1, searched-beside s searches s.session of.0 text of.1 of.2, of.3, of.4)
  passed-beside s next line statement.Report used text of = of
  passed-beside s next line (statement.Retire name) used text of = of
  passed-beside s next line (statement.Watch name query filter) used text (inl of) = inl (of.0, of.1, named-beside s of.0 of.2, of.3, of.4, of.5)
  passed-beside s next line (statement.Watch name query filter) used text (inr of) = inr of
  passed-beside s next line (statement.Watched name) used text (inl of) = inl (of.0, of.1, named-beside s of.0 of.2, of.3, of.4, of.5)
  passed-beside s next line (statement.Watched name) used text (inr of) = inr of
  passed-beside s next line (statement.Search query filter) used text of = (of.0, of.1, named-beside s of.0 of.2, of.3, of.4, of.5)
  passed-beside s next line (statement.Kept query) used text of = (of.0, of.1, named-beside s of.0 of.2, of.3, of.4, of.5)
  passed-beside s next line (statement.Signature pattern) used text of = (of.0, of.1, named-beside s of.0 of.2, of.3, of.4, of.5)
  passed-beside s next line statement.Players used text of = (of.0, of.1, named-beside s of.0 of.2, of.3, of.4, of.5)
  passed-beside s next line statement.Doubles used text of = (of.0, of.1, named-beside s of.0 of.2, of.3, of.4, of.5)
  passed-beside s next line (statement.Game number) used text of = (of.0, of.1, named-beside s of.0 of.2, of.3, of.4, of.5)
  passed-beside s next line (statement.Opening shape depth least) used text of = (of.0, of.1, named-beside s of.0 of.2, of.3, of.4, of.5)

  printed-beside : (boxes : List BoxTally) (course : List ImportCourse) (placed : List Placed) (s : State) (out : List ℕ) → HasPrinted files rules boxes course placed s out → HasPrinted files (rules_beside rules.batch) boxes course placed s out
  printed-beside boxes _ _ _ _ HasPrinted.nothing = HasPrinted.nothing
  printed-beside boxes _ _ _ _ (HasPrinted.one_more {course} {placed} {s} {out} used p next text so_far is) =
      HasPrinted.one_more used p next text (printed-beside boxes course placed s out so_far) (passed-beside s next p.line p.statement used text is)

  pub lawful-beside : (boxes : List BoxTally) (course : List ImportCourse) (placed : List Placed) (out : List ℕ) → IsLawful files rules boxes course placed out → IsLawful files (rules_beside rules.batch) boxes course placed out
  lawful-beside boxes course placed out (s, text, printed, is) = (s, text, printed-beside boxes course placed s text printed, is)
