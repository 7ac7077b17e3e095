-- A script makes few versions, so that the number of each is a word of 64 bits.
use Rattle.std.proofs.Common.{◌≡◌, ◌∙◌, ℕ, ◌+◌, ◌-◌, ◌*◌, ◌/◌, ◌^◌, ◌<◌, ◌≤◌, List, [], ◌∷◌, ◌++◌, length, map, length-append, ap, arith}
use Rattle.std.specs.Prelude.{All}
use Rattle.std.specs.Fork.{slice_chunk}
use Rattle.std.specs.List.{range_with_len}
use Rattle.std.proofs.lemmas.List.{length-map}
use Rattle.std.proofs.lemmas.List.Elements.{All-head, All-weaker}
use Rattle.std.proofs.lemmas.List.FromFn.{length-range_with_len}
use Rattle.kb_geometry.proofs.Lists.{All-before}
use Rattle.kb_edges.specs.Files.{File}
use Rattle.hit_collectors.specs.Tallies.{BoxTally}
use Rattle.query_script.specs.Script.{IsPlacedAt, IsStatementAt, script_lines}
use Rattle.query_script.specs.declared.statement.Placed.{Placed}
use Rattle.query_script.specs.declared.statement.Statement.{Statement}
use Rattle.query_script.specs.declared.statement.Statement.TheVariants as statement
use Rattle.import_work.specs.Course.{Files, Finding, ImportCourse, ImportFile, IsImported, Made, TooMany, Unlisted, games_of_files, trees_in}
use Rattle.import_work.specs.Log.{batches, games_of_segments, segments_of}
use Rattle.import_work.specs.Outcome.{counts_of}
use Rattle.import_work.specs.declared.outcome.Counts.{Counts}
use Rattle.import_work.specs.declared.source.Source.{Source}
use Rattle.import_work.specs.declared.source.Source.TheVariants as source
use Rattle.import_work.proofs.ReadFiles.{All_behind}
use Rattle.import_work.proofs.SegmentLemmas.{pieces_few}
use Rattle.session_core.specs.Lawful.{HasPrinted, IsPassed, OpensImport, Rules, State, last_of}
use Rattle.session_core.proofs.StateLemmas.{log_kept}
use Rattle.serial_run.specs.Script.{IsScript}
use Rattle.serial_run.proofs.ScriptLemmas.{IsScript-few}

-- ---- statements of a script

-- no more games are made than a script may ask for
abbrev pub IsSmall : Statement → Type 0
IsSmall (statement.Make games start) = games ≤ 400000
IsSmall other = Unit {0}

abbrev pub AreSmall : List Placed → Type 0
AreSmall placed = All (λ (p : Placed). IsSmall p.statement) placed

small-at : (lines : List (List ℕ)) (line : ℕ) (own : Statement) → IsStatementAt lines line own → IsSmall own
small-at lines line (statement.Make games start) is = is.spelled.2.3.few
small-at lines line (statement.Import path) is = tt
small-at lines line statement.Wait is = tt
small-at lines line (statement.Until number) is = tt
small-at lines line (statement.Search query filter) is = tt
small-at lines line (statement.Together searches) is = tt
small-at lines line (statement.Kept query) is = tt
small-at lines line (statement.Signature pattern) is = tt
small-at lines line statement.Players is = tt
small-at lines line statement.Doubles is = tt
small-at lines line (statement.Game number) is = tt
small-at lines line (statement.Opening shape depth least) is = tt
small-at lines line statement.Report is = tt
small-at lines line (statement.Retire name) is = tt
small-at lines line (statement.Watch name query filter) is = tt
small-at lines line (statement.Watched name) is = tt

pub small-script : (script : List ℕ) (placed : List Placed) → IsScript script placed → AreSmall placed
small-script script placed is =
    All-weaker (IsPlacedAt (script_lines script)) (λ (p : Placed). IsSmall p.statement)
    (λ (p : Placed) at. small-at (script_lines script) p.line p.statement at.stands) placed is.1.sound

-- ---- the segments of an import

pieces-few : (batch : ℕ) (files : List ImportFile) → 1 ≤ batch → length (map games_of_files (batches batch files)) ≤ length files
pieces-few batch files some =
    let count = (length files + (batch - 1)) / batch in
    let pieces = range_with_len 0 count in
    let long : length (map games_of_files (batches batch files)) ≡ count = length-map (batches batch files) games_of_files ∙ length-map pieces (slice_chunk files batch) ∙ length-range_with_len 0 count in
    omega (arith, long, pieces_few (length files) batch some)

module _ (all : List File) (before : Counts) (entry : ImportCourse) (batch : ℕ) (some : 1 ≤ batch) where
  under-few : (path : List ℕ) (finding : Finding) → IsImported all (source.Under path) before entry finding → length (segments_of batch finding) ≤ 400000
  under-few path Unlisted is = omega arith
  under-few path (TooMany count) is = omega arith
  under-few path (Files files) is = omega (arith, pieces-few batch files some, is.few)
  under-few path (Made files) is = absurd is

  made-few : (games start : ℕ) (finding : Finding) → games ≤ 400000 → IsImported all (source.Made games start) before entry finding → length (segments_of batch finding) ≤ 400000
  made-few games start (Made files) few is = omega (arith, pieces-few batch files some, is.0.all, few)
  made-few games start Unlisted few is = absurd is
  made-few games start (TooMany count) few is = absurd is
  made-few games start (Files files) few is = absurd is

-- ---- the versions that statements make

module _ (files : List File) (rules : Rules) (some : 1 ≤ rules.batch) where
  opened-few : (s next : State) (line : ℕ) (from : Source) (used : List ImportCourse) (text : List ℕ) (is : OpensImport files rules s line from used text next) → length (segments_of rules.batch is.1) ≤ 400000 → last_of next ≤ last_of s + 400000
  opened-few s next line from used text is few =
      let log : next.log ≡ s.log ++ segments_of rules.batch is.1 = ap (λ (t : State). t.log) is.5 in
      omega (arith, few, ap length log, length-append s.log (segments_of rules.batch is.1))

  still-few : (s next : State) → next.log ≡ s.log → last_of next ≤ last_of s + 400000
  still-few s next same = omega (arith, ap length same)

  passed-few : (s next : State) (line : ℕ) (own : Statement) (used : List ImportCourse) (text : List ℕ) → IsSmall own → IsPassed files rules s line own used text next → last_of next ≤ last_of s + 400000
  passed-few s next line (statement.Import path) used text small is =
      opened-few s next line (source.Under path) used text is (under-few files (counts_of (trees_in (games_of_segments s.log))) is.0 rules.batch some path is.1 is.3)
  passed-few s next line (statement.Make games start) used text small is =
      opened-few s next line (source.Made games start) used text is (made-few files (counts_of (trees_in (games_of_segments s.log))) is.0 rules.batch some games start is.1 small is.3)
  passed-few s next line statement.Wait used text small is = still-few s next (log_kept rules files s next line statement.Wait used text tt is)
  passed-few s next line (statement.Until number) used text small is = still-few s next (log_kept rules files s next line (statement.Until number) used text tt is)
  passed-few s next line (statement.Together searches) used text small is = still-few s next (log_kept rules files s next line (statement.Together searches) used text tt is)
  passed-few s next line (statement.Search query filter) used text small is = still-few s next (log_kept rules files s next line (statement.Search query filter) used text tt is)
  passed-few s next line (statement.Kept query) used text small is = still-few s next (log_kept rules files s next line (statement.Kept query) used text tt is)
  passed-few s next line (statement.Signature pattern) used text small is = still-few s next (log_kept rules files s next line (statement.Signature pattern) used text tt is)
  passed-few s next line statement.Players used text small is = still-few s next (log_kept rules files s next line statement.Players used text tt is)
  passed-few s next line statement.Doubles used text small is = still-few s next (log_kept rules files s next line statement.Doubles used text tt is)
  passed-few s next line (statement.Game number) used text small is = still-few s next (log_kept rules files s next line (statement.Game number) used text tt is)
  passed-few s next line (statement.Opening shape depth least) used text small is = still-few s next (log_kept rules files s next line (statement.Opening shape depth least) used text tt is)
  passed-few s next line statement.Report used text small is = still-few s next (log_kept rules files s next line statement.Report used text tt is)
  passed-few s next line (statement.Retire name) used text small is = still-few s next (log_kept rules files s next line (statement.Retire name) used text tt is)
  passed-few s next line (statement.Watch name query filter) used text small is = still-few s next (log_kept rules files s next line (statement.Watch name query filter) used text tt is)
  passed-few s next line (statement.Watched name) used text small is = still-few s next (log_kept rules files s next line (statement.Watched name) used text tt is)

  -- the last one of a list
  last-small : (placed : List Placed) (p : Placed) → AreSmall (placed ++ p ∷ []) → IsSmall p.statement
  last-small placed p small = All-head (λ (q : Placed). IsSmall q.statement) p [] (All_behind (λ (q : Placed). IsSmall q.statement) placed (p ∷ []) small)

  printed-few : (boxes : List BoxTally) (course : List ImportCourse) (placed : List Placed) (s : State) (out : List ℕ) → HasPrinted files rules boxes course placed s out → AreSmall placed → last_of s ≤ length placed * 400000
  printed-few boxes _ _ _ _ HasPrinted.nothing small = omega arith
  printed-few boxes _ _ _ _ (HasPrinted.one_more {course} {placed} {s} {out} used p next text so_far is) small =
      let before = printed-few boxes course placed s out so_far (All-before (λ (q : Placed). IsSmall q.statement) placed (p ∷ []) small) in
      let more = passed-few s next p.line p.statement used text (last-small placed p small) is in
      omega (arith, before, more, length-append placed (p ∷ []))

-- ---- what a guided output asks for

-- So many statements, of which each makes few games, and a version has the games of one file at least.
pub record AreFew (rules : Rules) (placed : List Placed) : Type 0 where
  pub some : 1 ≤ rules.batch
  pub small : AreSmall placed
  pub few : length placed ≤ 1048576

pub few-script : (rules : Rules) (script : List ℕ) (placed : List Placed) → 1 ≤ rules.batch → IsScript script placed → AreFew rules placed
few-script rules script placed some is = record { some = some; small = small-script script placed is; few = IsScript-few script placed is }

pub few-before : (rules : Rules) (placed more : List Placed) → AreFew rules (placed ++ more) → AreFew rules placed
few-before rules placed more h = record {
  some = h.some;
  small = All-before (λ (p : Placed). IsSmall p.statement) placed more h.small;
  few = omega (arith, h.few, length-append placed more);
}

pub few-versions : (files : List File) (rules : Rules) (boxes : List BoxTally) (course : List ImportCourse) (placed : List Placed) (s : State) (out : List ℕ) → AreFew rules placed → HasPrinted files rules boxes course placed s out → last_of s < 2 ^ 64
few-versions files rules boxes course placed s out h printed = omega (arith, h.few, printed-few files rules h.some boxes course placed s out printed h.small)
