-- What holds of each state of a run where no name of a file or box has a line feed: the games are trees of
-- files without one, and the boxes have none.
use Rattle.std.proofs.Common.{◌≡◌, ◌∙◌, ◌⊎◌, inl, inr, ℕ, ◌+◌, ◌-◌, ◌*◌, ◌/◌, true, List, [], ◌∷◌, ◌++◌, length, take, drop, refl, sym, ap, subst, append-nil}
use Rattle.std.specs.Prelude.{All}
use Rattle.std.proofs.lemmas.Grind.{flat_map-append}
use Rattle.std.proofs.lemmas.List.{map_push, take-append-drop}
use Rattle.std.proofs.lemmas.List.Elements.{All-append, All-cons, All-head, All-map, All-nil, All-tail, All-weaker}
use Rattle.kb_geometry.proofs.Lists.{All-before}
use Rattle.kb_edges.specs.Files.{File, HasFile}
use Rattle.game_tree.specs.Tree.{Tree}
use Rattle.node_position.specs.Games.{Game}
use Rattle.info_filter.specs.declared.filter.Filter.{Filter}
use Rattle.pattern_images.specs.declared.hit.Hit.{Hit}
use Rattle.pattern_images.specs.declared.query.Query.{Query}
use Rattle.hit_collectors.specs.Boxes.{IsRetired, all_with_hits}
use Rattle.hit_collectors.specs.Tallies.{BoxTally, with_hits}
use Rattle.query_script.specs.declared.statement.PlacedSearch.{PlacedSearch}
use Rattle.query_script.specs.declared.statement.Statement.{Statement}
use Rattle.query_script.specs.declared.statement.Statement.TheVariants as statement
use Rattle.import_work.specs.Course.{AreMade, AreRead, Files, Finding, ImportCourse, ImportFile, IsImported, Made, TooMany, Unlisted, games_from, games_of_files, import_file, made_file, made_name, names_found, names_of, trees_in}
use Rattle.import_work.specs.Log.{Segment, games_at, games_of_segments, segments_of}
use Rattle.import_work.specs.Outcome.{counts_of}
use Rattle.import_work.specs.declared.outcome.Counts.{Counts}
use Rattle.import_work.specs.declared.outcome.FileOutcome.{FileOutcome}
use Rattle.import_work.specs.declared.source.Source.{Source}
use Rattle.import_work.specs.declared.source.Source.TheVariants as source
use Rattle.import_work.proofs.ImportsExist.{HasTree, imported-trees}
use Rattle.import_work.proofs.NameLemmas.{AreNames-there}
use Rattle.import_work.proofs.ReadFiles.{All_behind}
use Rattle.import_work.proofs.SegmentLemmas.{pieces_joined}
use Rattle.session_core.specs.Answers.{IsRetiredBy, IsWatchBegun, IsWatchMissing, IsWatchTaken, IsWatchTold}
use Rattle.session_core.specs.Lawful.{AreSearched, IsPassed, NamesNone, NamesVersion, Rules, State, after_import, with_floor, with_session}
use Rattle.session_core.specs.SessionState.{SessionState, fed_with, with_watches}
use Rattle.run_audit.specs.Verdict.{IsOneLine}
use Rattle.run_audit.proofs.AnswerLines.{IsCleanBox, IsCleanGame}
use Rattle.run_audit.proofs.LineLists.{one_line, one_line-from}

-- ---- the names of files

-- a file of a folder that has no line feed in a name has none in its own
there-line : (files : List File) (path name : List ℕ) → All (λ (f : File). IsOneLine f.name) files → HasFile files path name → one_line name ≡ true
there-line files path name clean (k, f, below, is, holds) =
    one_line-from name (subst IsOneLine holds.1 (subst (λ (g : File). IsOneLine g.name) is (clean k f below)))

abbrev pub IsLineName : List ℕ → Type 0
IsLineName name = one_line name ≡ true

-- the names that an import finds have none
pub found-names : (files : List File) (from : Source) (before : Counts) (entry : ImportCourse) (finding : Finding) → All (λ (f : File). IsOneLine f.name) files → IsImported files from before entry finding → All IsLineName (names_found finding)
found-names files from before entry Unlisted clean is = All-nil IsLineName
found-names files from before entry (TooMany count) clean is = All-nil IsLineName
found-names files from before entry (Made found) clean is = All-nil IsLineName
found-names files (source.Under path) before entry (Files found) clean is =
    All-weaker (HasFile files path) IsLineName (λ name there. there-line files path name clean there) (names_of found) (AreNames-there files path (names_of found) is.names)
found-names files (source.Made games start) before entry (Files found) clean is = absurd is

-- ---- the games of an import

abbrev HasLineFile : Game → Type 0
HasLineFile game = one_line game.file ≡ true

from-line : (name : List ℕ) (place : ℕ) (trees : List Tree) → one_line name ≡ true → All HasLineFile (games_from name place trees)
from-line name place [] one = All-nil HasLineFile
from-line name place (tree ∷ trees) one =
    All-cons HasLineFile (record { file = name; place = place; tree = tree }) (games_from name (place + 1) trees) one (from-line name (place + 1) trees one)

files-more : (files : List ImportFile) (f : ImportFile) → All HasLineFile (games_of_files files) → All HasLineFile f.games → All HasLineFile (games_of_files (files ++ f ∷ []))
files-more files f are more =
    subst (All HasLineFile)
    (ap (λ gs. games_of_files files ++ gs) (sym (append-nil f.games)) ∙ sym (flat_map-append (λ (g : ImportFile). g.games) files (f ∷ [])))
    (All-append HasLineFile (games_of_files files) f.games are more)

-- the names of files, and of one more
names-parts : (files : List ImportFile) (f : ImportFile) → All IsLineName (names_of (files ++ f ∷ [])) → All IsLineName (names_of files) × IsLineName f.report.name
names-parts files f each =
    let both : All IsLineName (names_of files ++ f.report.name ∷ []) = subst (All IsLineName) (map_push (λ (g : ImportFile). g.report.name) files f) each in
    (All-before IsLineName (names_of files) (f.report.name ∷ []) both, All-head IsLineName f.report.name [] (All_behind IsLineName (names_of files) (f.report.name ∷ []) both))

read-line : (all : List File) (path : List ℕ) (before : Counts) (files : List ImportFile) (unread : List (List ℕ)) → AreRead all path before files unread → All IsLineName (names_of files) → All HasLineFile (games_of_files files)
read-line all path before _ _ AreRead.nothing each = All-nil HasLineFile
read-line all path before _ _ (AreRead.read {files} {unread} name bytes outcome trees so_far content is) each =
    let parts = names-parts files (import_file name outcome trees) each in
    files-more files (import_file name outcome trees) (read-line all path before files unread so_far parts.0) (from-line name 0 trees parts.1)
read-line all path before _ _ (AreRead.not_read {files} {unread} name so_far) each =
    let parts = names-parts files (import_file name FileOutcome.Unread []) each in
    files-more files (import_file name FileOutcome.Unread []) (read-line all path before files unread so_far parts.0) (All-nil HasLineFile)

made-line : (start first : ℕ) (before : Counts) (files : List ImportFile) → AreMade start first before files → All HasLineFile (games_of_files files)
made-line start first before _ AreMade.nothing = All-nil HasLineFile
made-line start first before _ (AreMade.one_more {files} outcome trees so_far is) =
    files-more files (made_file (first + length files) outcome trees) (made-line start first before files so_far) (from-line made_name (first + length files) trees refl)

-- the games of the first files
first-line : (files : List ImportFile) (n : ℕ) → All HasLineFile (games_of_files files) → All HasLineFile (games_of_files (take n files))
first-line files n are =
    All-before HasLineFile (games_of_files (take n files)) (games_of_files (drop n files))
    (subst (All HasLineFile) (ap games_of_files (sym (take-append-drop n files)) ∙ flat_map-append (λ (g : ImportFile). g.games) (take n files) (drop n files)) are)

batch-line : (files : List ImportFile) (batch : ℕ) → All HasLineFile (games_of_files files) → All HasLineFile (games_of_segments (segments_of batch (Files files)))
batch-line files batch are =
    let count = (length files + (batch - 1)) / batch in
    subst (All HasLineFile) (sym (pieces_joined files batch count)) (first-line files (count * batch) are)

imported-line : (all : List File) (from : Source) (before : Counts) (entry : ImportCourse) (batch : ℕ) (finding : Finding) → All IsLineName (names_found finding) → IsImported all from before entry finding → All HasLineFile (games_of_segments (segments_of batch finding))
imported-line all from before entry batch Unlisted each is = All-nil HasLineFile
imported-line all from before entry batch (TooMany names) each is = All-nil HasLineFile
imported-line all (source.Under path) before entry batch (Files files) each is = batch-line files batch (read-line all path before files entry.unread is.read each)
imported-line all (source.Under path) before entry batch (Made files) each is = absurd is
imported-line all (source.Made games start) before entry batch (Files files) each is = absurd is
imported-line all (source.Made games start) before entry batch (Made files) each is = batch-line files batch (made-line start 0 before files is.0.made)

-- trees of files without a line feed
both-clean : (games : List Game) → All HasTree games → All HasLineFile games → All IsCleanGame games
both-clean games trees files k d below = record { tree = trees k d below; file = files k d below }

-- ---- the boxes

fed-clean : (hits : List Hit) (boxes : List BoxTally) → All IsCleanBox boxes → All IsCleanBox (all_with_hits hits boxes)
fed-clean hits boxes clean = All-map IsCleanBox (with_hits hits) boxes clean

retired-clean : (name : List ℕ) (old new : List BoxTally) → IsRetired (λ (told : BoxTally). told.name) name old new → All IsCleanBox old → All IsCleanBox new
retired-clean name old new is clean =
    let all = subst (All IsCleanBox) is.boxes clean in
    subst (All IsCleanBox) (sym is.others)
    (All-append IsCleanBox is.earlier is.later (All-before IsCleanBox is.earlier (is.retired ∷ is.later) all)
    (All-tail IsCleanBox is.retired is.later (All_behind IsCleanBox is.earlier (is.retired ∷ is.later) all)))

-- ---- states

pub record IsClean (s : State) : Type 0 where
  pub games : All IsCleanGame (games_of_segments s.log)
  pub boxes : All IsCleanBox s.session.boxes

-- the games of each version
pub clean-at : (s : State) → IsClean s → (n : ℕ) → All IsCleanGame (games_at s.log n)
clean-at s h n =
    All-before IsCleanGame (games_of_segments (take n s.log)) (games_of_segments (drop n s.log))
    (subst (All IsCleanGame) (ap games_of_segments (sym (take-append-drop n s.log)) ∙ flat_map-append (λ (g : Segment). g) (take n s.log) (drop n s.log)) h.games)

module _ (files : List File) (rules : Rules) (clean : All (λ (f : File). IsOneLine f.name) files) where
  -- an import
  imported : (s : State) (line : ℕ) (from : Source) (entry : ImportCourse) (finding : Finding) → IsClean s → IsImported files from (counts_of (trees_in (games_of_segments s.log))) entry finding → IsClean (after_import rules s line finding)
  imported s line from entry finding h is =
      let before = counts_of (trees_in (games_of_segments s.log)) in
      let segments = segments_of rules.batch finding in
      let added : All IsCleanGame (games_of_segments segments) =
      both-clean (games_of_segments segments) (imported-trees files from before entry rules.batch finding is) (imported-line files from before entry rules.batch finding (found-names files from before entry finding clean is) is) in
      record {
        games = subst (All IsCleanGame) (sym (flat_map-append (λ (g : Segment). g) s.log segments)) (All-append IsCleanGame (games_of_segments s.log) (games_of_segments segments) h.games added);
        boxes = h.boxes;
      }

  -- other statements, by what they leave
  left : (s : State) (n : ℕ) (session : SessionState) → IsClean s → All IsCleanBox session.boxes → IsClean (with_session (with_floor s n) session)
  left s n session h boxes = record { games = h.games; boxes = boxes }

  left-same : (s : State) (n : ℕ) (session : SessionState) → IsClean s → session ≡ s.session → IsClean (with_session (with_floor s n) session)
  left-same s n session h same = left s n session h (subst (λ (t : SessionState). All IsCleanBox t.boxes) (sym same) h.boxes)

  fed : (hits : List Hit) (before after : SessionState) → after ≡ fed_with hits before → All IsCleanBox before.boxes → All IsCleanBox after.boxes
  fed hits before after is boxes = subst (λ (t : SessionState). All IsCleanBox t.boxes) (sym is) (fed-clean hits before.boxes boxes)

  searches-clean : (s : State) (searches : List PlacedSearch) (session : SessionState) (greatest : ℕ) (text : List ℕ) (after : SessionState) → AreSearched rules s searches session greatest text after → All IsCleanBox session.boxes → All IsCleanBox after.boxes
  searches-clean s [] session greatest text after h boxes = subst (λ (t : SessionState). All IsCleanBox t.boxes) (sym h.2) boxes
  searches-clean s (p ∷ ps) session greatest text after h boxes =
      searches-clean s ps h.2 h.3 h.4 after h.7 (fed (h.6).hits session h.2 (h.6).fed boxes)

  retired : (line : ℕ) (name : List ℕ) (session : SessionState) (text : List ℕ) (after : SessionState) → IsRetiredBy line name session text after → All IsCleanBox session.boxes → All IsCleanBox after.boxes
  retired line name session _ _ (IsRetiredBy.retired boxes is) clean = retired-clean name session.boxes boxes is clean
  retired line name session _ _ (IsRetiredBy.none none) clean = clean

  watched : (line : ℕ) (name : List ℕ) (query : Query) (filter : Filter) (s next : State) (used : List ImportCourse) (text : List ℕ) → IsClean s →
      NamesVersion rules s (λ view after. IsWatchBegun line view name query filter s.session text after) used next ⊎ NamesNone s (IsWatchTaken line name s.session text) used next → IsClean next
  watched line name query filter s next used text h (inl is) =
      rw is.5 (left s is.0 is.1 h (fed (is.3).hits (with_watches s.session (is.3).watches) is.1 (is.3).fed h.boxes))
  watched line name query filter s next used text h (inr is) = rw (is.3, (is.1).same) (record { games = h.games; boxes = h.boxes })

  told : (line : ℕ) (name : List ℕ) (s next : State) (used : List ImportCourse) (text : List ℕ) → IsClean s →
      NamesVersion rules s (λ view after. IsWatchTold line view name s.session text after) used next ⊎ NamesNone s (IsWatchMissing line name s.session text) used next → IsClean next
  told line name s next used text h (inl is) =
      rw is.5 (left s is.0 is.1 h (fed (is.3).new (with_watches s.session (is.3).watches) is.1 (is.3).fed h.boxes))
  told line name s next used text h (inr is) = rw (is.3, (is.1).same) (record { games = h.games; boxes = h.boxes })

  pub clean-on : (s next : State) (line : ℕ) (own : Statement) (used : List ImportCourse) (text : List ℕ) → IsClean s → IsPassed files rules s line own used text next → IsClean next
  clean-on s next line (statement.Import path) used text h is = rw is.5 (imported s line (source.Under path) is.0 is.1 h is.3)
  clean-on s next line (statement.Make games start) used text h is = rw is.5 (imported s line (source.Made games start) is.0 is.1 h is.3)
  clean-on s next line statement.Wait used text h is = rw is.2 (record { games = h.games; boxes = h.boxes })
  clean-on s next line (statement.Until number) used text h is = rw is.4 (record { games = h.games; boxes = h.boxes })
  clean-on s next line (statement.Together searches) used text h is = rw is.4 (left s is.0 is.1 h (searches-clean s searches s.session is.0 text is.1 is.2 h.boxes))
  clean-on s next line (statement.Search query filter) used text h is = rw is.5 (left s is.0 is.1 h (fed (is.3).hits s.session is.1 (is.3).fed h.boxes))
  clean-on s next line (statement.Kept query) used text h is = rw is.5 (left-same s is.0 is.1 h is.3.1)
  clean-on s next line (statement.Signature pattern) used text h is = rw is.5 (left-same s is.0 is.1 h is.3.1)
  clean-on s next line statement.Players used text h is = rw is.5 (left-same s is.0 is.1 h is.3.1)
  clean-on s next line statement.Doubles used text h is = rw is.5 (left-same s is.0 is.1 h is.3.1)
  clean-on s next line (statement.Game number) used text h is = rw is.5 (left-same s is.0 is.1 h is.3.1)
  clean-on s next line (statement.Opening shape depth least) used text h is = rw is.5 (left-same s is.0 is.1 h is.3.1)
  clean-on s next line statement.Report used text h is = rw is.2 h
  clean-on s next line (statement.Retire name) used text h is = rw is.3 (record { games = h.games; boxes = retired line name s.session text is.0 is.1 h.boxes })
  clean-on s next line (statement.Watch name query filter) used text h is = watched line name query filter s next used text h is
  clean-on s next line (statement.Watched name) used text h is = told line name s next used text h is
