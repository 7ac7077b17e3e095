-- What an import leaves to a run: its segments, its report and what it lost.
use Rattle.std.proofs.Common.{◌≡◌, ◌⊎◌, inl, inr, ℕ, ◌+◌, ◌≤◌, List, [], ◌∷◌, ◌++◌, Option, Some, length, length-append, refl, sym, ap, ◌∙◌, subst, arith}
use Rattle.std.proofs.lemmas.List.{length-replicate}
use Rattle.kb_edges.specs.Faults.{Rose, RoseBy}
use Rattle.kb_edges.specs.Files.{File}
use Rattle.node_position.specs.Games.{Game}
use Rattle.version_publisher.specs.Contents.{items_in}
use Rattle.version_publisher.specs.declared.state.VersionState.{VersionState}
use Rattle.import_work.specs.Batches.{games_told, line_reports}
use Rattle.import_work.specs.Course.{Finding, ImportCourse, IsImported, games_of_files, losses_of, made_name, trees_in}
use Rattle.import_work.specs.Imports.{HasGiven, ImportState, IsFolderListed, IsListed, IsListedIn, IsNotThere, IsOpened, Tells, games_reported}
use Rattle.import_work.specs.Log.{Segment, games_of_segments, segments_of}
use Rattle.import_work.specs.Outcome.{counts_of}
use Rattle.import_work.specs.declared.outcome.Counts.{Counts}
use Rattle.import_work.specs.declared.report.ReportBody.{ReportBody}
use Rattle.import_work.specs.declared.report.ReportBody.TheVariants as report
use Rattle.import_work.specs.declared.source.Source.{Source}
use Rattle.import_work.specs.declared.source.Source.TheVariants as source
use Rattle.import_work.proofs.FoundSegments.{gives_all}
use Rattle.import_work.proofs.GivenSegments.{adds_up}
use Rattle.import_work.proofs.Losses.{loses}
use Rattle.import_work.proofs.RoomLemmas.{length-trees}
use Rattle.import_work.proofs.SegmentLemmas.{games_of_segments-all}
use Rattle.session_core.specs.ImportTexts.{told_text}
use Rattle.serial_run.specs.Run.{serial_rules}
use Rattle.serial_run.specs.Steps.{LeadsOn}
use Rattle.session_core.specs.Sources.{statement_of}
use Rattle.import_segments.specs.Stores.{HasFewGames, HasTaken}
use Rattle.session_core.specs.ImportTexts.{listed_text, made_text, report_text}
use Rattle.import_segments.proofs.PushedSegments.{games_pushed}
use Rattle.serial_run.proofs.StatementLemmas.{leads-import}

-- no game is told at first, and few names are left
pub no_games : (from : Source) (body : ReportBody) (left : List (List ℕ)) → IsListed from body left → games_reported body ≡ 0
no_games (source.Under path) (report.Files lines) left h = ap (λ ls. games_told (line_reports ls)) h.0
no_games (source.Under path) report.Unlisted left h = refl
no_games (source.Under path) (report.TooMany listed) left h = refl
no_games (source.Under path) (report.Made games full) left h = absurd h
no_games (source.Made games start) body left h = ap games_reported h.0

few_names : (body : ReportBody) (left : List (List ℕ)) → IsFolderListed body left → length left ≤ 4294967295
few_names (report.Files lines) left h = omega (arith, h.2)
few_names report.Unlisted left h = omega (arith, ap length h)
few_names (report.TooMany listed) left h = omega (arith, ap length h.1)
few_names (report.Made games full) left h = absurd h

pub few_left : (from : Source) (body : ReportBody) (left : List (List ℕ)) → IsListed from body left → length left ≤ 4294967295
few_left (source.Under path) body left h = few_names body left h
few_left (source.Made games start) body left h = omega (arith, ap length h.1, length-replicate games made_name, h.2)

-- the text of a report is that of what it tells
pub text_told : (batch : ℕ) → 1 ≤ batch → (line version : ℕ) (body : ReportBody) (finding : Finding) → Tells body finding → games_reported body ≡ length (games_of_segments (segments_of batch finding)) → told_text line body version ≡ report_text line finding version
text_told batch any line version report.Unlisted finding tells games = ap (λ f. report_text line f version) (sym tells)
text_told batch any line version (report.TooMany listed) finding tells games = ap (λ f. report_text line f version) (sym tells)
text_told batch any line version (report.Files lines) finding tells games =
    let files = tells.0 in
    let count : games_told (line_reports lines) ≡ length (games_of_files files) = games ∙ ap (λ f. length (games_of_segments (segments_of batch f))) tells.1 ∙ ap length (games_of_segments-all batch any files) in
    ap (λ n. listed_text line (line_reports lines) n version) count
    ∙ ap (λ rs. listed_text line rs (length (games_of_files files)) version) tells.2
    ∙ ap (λ f. report_text line f version) (sym tells.1)
text_told batch any line version (report.Made games full) finding tells count =
    let files = tells.0 in
    ap (λ n. made_text line n full version) tells.2
    ∙ ap (λ n. made_text line (length (games_of_files files)) n version) tells.3
    ∙ ap (λ f. report_text line f version) (sym tells.1)

-- what an import from this source finds and loses in these files, with its segments and the text of its
-- report
pub record IsReported (files : List File) (batch : ℕ) (from : Source) (line number : ℕ) (before : Counts) (segments : List Segment) (text : List ℕ) (faults_before faults_now : ℕ) : Type 0 where
  pub entry : ImportCourse
  pub finding : Finding
  pub imported : IsImported files from before entry finding
  pub segments_are : segments ≡ segments_of batch finding
  pub text_is : text ≡ report_text line finding (number + length segments)
  pub paid : RoseBy (losses_of (entry ∷ [])) faults_before faults_now

module _ (told : Option (List File)) (batch : ℕ) (any : 1 ≤ batch) (from : Source) (line number : ℕ) (before : Counts) (start now : ImportState) (at_first version : VersionState Game) (first last : ℕ) (opened : IsOpened from line before number start) (listed : IsListed from start.body start.left) (taken : HasTaken told batch start now at_first version first last) where
  version_is : now.number + now.given ≡ number + length taken.segments
  version_is =
      let adds = adds_up told batch start first now taken.segments last any taken.given in
      let at : start.number ≡ number = ap (λ i. i.number) opened in
      let none : start.given ≡ 0 = ap (λ i. i.given) opened in
      omega (arith, adds.number, adds.given, at, none)

  line_is : now.line ≡ line
  line_is = (adds_up told batch start first now taken.segments last any taken.given).line ∙ ap (λ i. i.line) opened

  games_are : games_reported now.body ≡ length (games_of_segments taken.segments)
  games_are = omega (arith, (adds_up told batch start first now taken.segments last any taken.given).told, no_games from start.body start.left listed)

  -- the report tells few games
  pub few_told : now.counts ≡ counts_of (trees_in (items_in version.parts)) → HasFewGames now.counts → games_reported now.body ≤ 400000
  few_told counted few =
      let all : now.counts.games ≡ length (items_in version.parts) = ap (λ (c : Counts). c.games) counted ∙ length-trees (items_in version.parts) in
      let parts : length (items_in version.parts) ≡ length (items_in at_first.parts) + length (games_of_segments taken.segments) = ap length (games_pushed at_first version taken.segments taken.pushed) ∙ length-append (items_in at_first.parts) (games_of_segments taken.segments) in
      omega (arith, games_are, all, parts, few)

  -- few segments were taken
  pub few_taken : version.number ≤ at_first.number + 4294967295
  few_taken =
      let adds = adds_up told batch start first now taken.segments last any taken.given in
      omega (arith, adds.few, few_left from start.body start.left listed, taken.pushed.number)

  pub reported : (files : List File) (earlier : Option (List File)) (faults : ℕ) → told ≡ earlier → earlier ≡ Some files → IsListedIn files from start.body start.left → (start.body ≡ report.Unlisted → Rose faults first ⊎ ((all : List File) × (earlier ≡ Some all) × IsNotThere all from)) → faults ≤ first → first ≤ last → now.left ≡ [] → IsReported files batch from line number before taken.segments (told_text now.line now.body (now.number + now.given)) faults last
  reported files earlier faults same here there cause later after none =
      let from_is : start.source ≡ from = ap (λ i. i.source) opened in
      let counts_are : start.counts ≡ before = ap (λ i. i.counts) opened in
      let given : HasGiven (Some files) batch start first taken.segments now last = subst (λ t. HasGiven t batch start first taken.segments now last) (same ∙ here) taken.given in
      let whole = gives_all files batch any start now taken.segments first last given from start.body from_is refl listed there none in
      let finds = whole.finds in
      record {
        entry = finds.entry;
        finding = finds.finding;
        imported = subst (λ c. IsImported files from c finds.entry finds.finding) counts_are (subst (λ p. IsImported files p start.counts finds.entry finds.finding) from_is finds.imported);
        segments_are = whole.segments_are;
        text_is =
            ap (λ l. told_text l now.body (now.number + now.given)) line_is
            ∙ ap (λ n. told_text line now.body n) version_is
            ∙ text_told batch any line (number + length taken.segments) now.body finds.finding whole.tells (games_are ∙ ap (λ (ss : List Segment). length (games_of_segments ss)) whole.segments_are);
        paid = loses files start faults first last finds (λ is. subst (λ p. Rose faults first ⊎ IsNotThere files p) (sym from_is) (cause_there files earlier here faults (cause is))) later after;
      }
    where
      cause_there : (files : List File) (earlier : Option (List File)) → earlier ≡ Some files → (faults : ℕ) → Rose faults first ⊎ ((all : List File) × (earlier ≡ Some all) × IsNotThere all from) → Rose faults first ⊎ IsNotThere files from
      cause_there files earlier here faults (inl rose) = inl rose
      cause_there files earlier here faults (inr (all, also, gone)) =
          let both : Some files ≡ Some all = sym here ∙ also in
          let same : files ≡ all = cc in
          inr (subst (λ fs. IsNotThere fs from) (sym same) gone)

  -- so the import leads a run on
  pub leads : (files : List File) (earlier : Option (List File)) (faults : ℕ) → told ≡ earlier → earlier ≡ Some files → IsListedIn files from start.body start.left → (start.body ≡ report.Unlisted → Rose faults first ⊎ ((all : List File) × (earlier ≡ Some all) × IsNotThere all from)) → faults ≤ first → first ≤ last → now.left ≡ [] →
      (waiting : Option (List ℕ)) (text written : List ℕ) → before ≡ counts_of (trees_in (items_in at_first.parts)) → number ≡ at_first.number → written ≡ told_text now.line now.body (now.number + now.given) →
      LeadsOn files (serial_rules batch) (record { version = at_first.number; games = items_in at_first.parts; waiting = waiting }) line (statement_of from) text (record { version = version.number; games = items_in version.parts; waiting = Some written }) faults last
  leads files earlier faults same here there cause later after none waiting text written counted numbered written_is =
      let r = reported files earlier faults same here there cause later after none in
      let segments : List Segment = taken.segments in
      let more : number + length segments ≡ version.number = omega (arith, taken.pushed.number, numbered) in
      leads-import (serial_rules batch) files (record { version = at_first.number; games = items_in at_first.parts; waiting = waiting }) line from text faults last r.entry r.finding (items_in version.parts) written version.number
      (subst (λ c. IsImported files from c r.entry r.finding) counted r.imported)
      (taken.pushed.number ∙ ap (λ (ss : List Segment). at_first.number + length ss) r.segments_are)
      (games_pushed at_first version segments taken.pushed ∙ ap (λ ss. items_in at_first.parts ++ games_of_segments ss) r.segments_are)
      (written_is ∙ r.text_is ∙ ap (report_text line r.finding) more)
      r.paid
