-- A lawful output is its own guided output, by its own course.
use Rattle.std.proofs.Common.{◌≡◌, ◌∙◌, ℕ, ◌^◌, ◌<◌, true, List, [], ◌∷◌, ◌++◌, Some, length, get_or, drop, sym, ap, subst, append_assoc, append-nil, arith}
use Rattle.std.specs.Prelude.{All, AllPairs, codes}
use Rattle.std.specs.Fmt.{decimal}
use Rattle.std.proofs.Math.Seq.{drop-append_seam}
use Rattle.std.proofs.lemmas.List.Elements.{All-head, All-tail, All-weaker, Contains-get_or}
use Rattle.kb_geometry.proofs.Lists.{All-before, AllPairs-head, Contains-first}
use Rattle.game_tree.proofs.Parts.{AllPairs-across, AllPairs-back}
use Rattle.kb_edges.specs.Files.{File}
use Rattle.hit_collectors.specs.Tallies.{BoxTally}
use Rattle.query_script.specs.declared.statement.Placed.{Placed}
use Rattle.query_script.specs.declared.statement.PlacedSearch.{PlacedSearch}
use Rattle.query_script.specs.declared.statement.Statement.{Statement}
use Rattle.query_script.specs.declared.statement.Statement.TheVariants as statement
use Rattle.import_work.specs.Course.{Finding, ImportCourse, IsImported, trees_in}
use Rattle.import_work.specs.Log.{games_of_segments}
use Rattle.import_work.specs.Outcome.{counts_of}
use Rattle.import_work.specs.declared.source.Source.TheVariants as source
use Rattle.import_work.proofs.ReadFiles.{All_behind}
use Rattle.session_core.specs.ImportTexts.{import_line_text, report_text}
use Rattle.session_core.specs.Lawful.{AreSearched, HasPrinted, IsLawful, IsPassed, Rules, State, last_of, view_at, waiting_text}
use Rattle.session_core.specs.SessionState.{SessionState}
use Rattle.serial_run.specs.Script.{IsScript}
use Rattle.run_audit.specs.Chosen.{IsChosen, StandsAt}
use Rattle.run_audit.specs.Guided.{AreGuidedSearches, HasGuided, IsGuidedBy, IsGuidedPass, MayName, NamesBehind, UsesShown, left_at_number, version_head}
use Rattle.run_audit.specs.Verdict.{HaveOneLineNames, IsOneLine}
use Rattle.run_audit.proofs.AnswerLines.{IsCleanBox, import-no_report}
use Rattle.run_audit.proofs.ChosenNumbers.{stands-behind}
use Rattle.run_audit.proofs.CleanStates.{IsClean, clean-on, found-names}
use Rattle.run_audit.proofs.LineLists.{one_line, one_line-from}
use Rattle.run_audit.proofs.OwnCourse.{PrintsFrom, before-no_report, nothing, one_more, own-printed, own-shown}
use Rattle.run_audit.proofs.OtherLines.{HasReport, no_report-then}
use Rattle.run_audit.proofs.ReportTexts.{head-line, lines_of_report, report-is, report-tails, report_head_of}
use Rattle.run_audit.proofs.TextHeads.{search-names}
use Rattle.run_audit.proofs.ScriptNames.{HasLineNames, IsFine, script-fine}

-- ---- the number that stands in the text

-- it stands in what is left of the record where the text begins
stands-left : (line : ℕ) (asked text rest left : List ℕ) (number : ℕ) → left ≡ text ++ rest → NamesBehind line asked text number → StandsAt (left_at_number line asked left) number
stands-left line asked text rest left number is named =
    let head = version_head line asked in
    let whole : left ≡ head ++ (named.others ++ rest) = is ∙ ap (λ t. t ++ rest) named.text_is ∙ append_assoc head named.others rest in
    subst (λ bytes. StandsAt bytes number) (sym (ap (drop (length head)) whole ∙ drop-append_seam head (named.others ++ rest))) (stands-behind named.others rest number named.stands)

module _ (files : List File) (rules : Rules) (recorded : List ℕ) where
  -- the searches of a block name the numbers that stand there
  own-searches : (s : State) (left rest : List ℕ) (searches : List PlacedSearch) (session : SessionState) (greatest : ℕ) (text : List ℕ) (after : SessionState) → left ≡ text ++ rest → AreSearched rules s searches session greatest text after → AreGuidedSearches rules s left searches session greatest text after
  own-searches s left rest [] session greatest text after is h = h
  own-searches s left rest (p ∷ ps) session greatest text after is h =
      let whole : left ≡ h.1 ++ (h.4 ++ rest) = is ∙ ap (λ t. t ++ rest) h.9 ∙ append_assoc h.1 h.4 rest in
      let named = search-names p.line (view_at s h.0) p.query p.filter session h.2 h.1 h.6 in
      let behind : drop (length h.1) left ≡ h.4 ++ rest = ap (drop (length h.1)) whole ∙ drop-append_seam h.1 (h.4 ++ rest) in
      (h.0, h.1, h.2, h.3, h.4, IsChosen.read h.5 (stands-left p.line (codes "search") h.1 (h.4 ++ rest) left h.0 whole named), h.6, own-searches s (drop (length h.1) left) rest ps h.2 h.3 h.4 after behind h.7, h.8, h.9)

  -- a statement names the number that stands there
  own-number : (s : State) (left rest : List ℕ) (line : ℕ) (own : Statement) (asked text : List ℕ) → left ≡ text ++ rest → (number : ℕ) → MayName rules s own number → NamesBehind line asked text number → IsChosen (MayName rules s own) (left_at_number line asked left) number
  own-number s left rest line own asked text is number may named = IsChosen.read may (stands-left line asked text rest left number is named)

  own-pass : (s next : State) (left rest : List ℕ) (line : ℕ) (own : Statement) (used : List ImportCourse) (text : List ℕ) → left ≡ text ++ rest → IsPassed files rules s line own used text next → UsesShown files recorded s line own used → IsGuidedPass files rules recorded s left line own used text next
  own-pass s next left rest line (statement.Together searches) used text is h shown = (h.0, h.1, own-searches s left rest searches s.session h.0 text h.1 is h.2, h.3, h.4)
  own-pass s next left rest line (statement.Import path) used text is h shown = (h, shown, tt)
  own-pass s next left rest line (statement.Make games start) used text is h shown = (h, shown, tt)
  own-pass s next left rest line statement.Wait used text is h shown = (h, shown, tt)
  own-pass s next left rest line statement.Report used text is h shown = (h, shown, tt)
  own-pass s next left rest line (statement.Retire name) used text is h shown = (h, shown, tt)
  own-pass s next left rest line (statement.Until number) used text is h shown = (h, shown, own-number s left rest line (statement.Until number) (codes "until " ++ decimal number) text is)
  own-pass s next left rest line (statement.Search query filter) used text is h shown = (h, shown, own-number s left rest line (statement.Search query filter) (codes "search") text is)
  own-pass s next left rest line (statement.Kept query) used text is h shown = (h, shown, own-number s left rest line (statement.Kept query) (codes "kept") text is)
  own-pass s next left rest line (statement.Signature pattern) used text is h shown = (h, shown, own-number s left rest line (statement.Signature pattern) (codes "signature") text is)
  own-pass s next left rest line statement.Players used text is h shown = (h, shown, own-number s left rest line statement.Players (codes "players") text is)
  own-pass s next left rest line statement.Doubles used text is h shown = (h, shown, own-number s left rest line statement.Doubles (codes "doubles") text is)
  own-pass s next left rest line (statement.Game number) used text is h shown = (h, shown, own-number s left rest line (statement.Game number) (codes "game " ++ decimal number) text is)
  own-pass s next left rest line (statement.Opening shape depth least) used text is h shown = (h, shown, own-number s left rest line (statement.Opening shape depth least) (codes "opening") text is)
  own-pass s next left rest line (statement.Watch name query filter) used text is h shown = (h, shown, own-number s left rest line (statement.Watch name query filter) (codes "watch " ++ name) text is)
  own-pass s next left rest line (statement.Watched name) used text is h shown = (h, shown, own-number s left rest line (statement.Watched name) (codes "watched " ++ name) text is)

-- ---- the lines of statements ascend

abbrev IsAbove : Placed → Placed → Type 0
IsAbove a b = a.line < b.line

module _ (placed : List Placed) (p : Placed) (ps : List Placed) (order : AllPairs IsAbove (placed ++ p ∷ ps)) where
  earlier-apart : All (λ (q : Placed). q.line ≡ p.line → ⊥) placed
  earlier-apart k d below same =
      let above = AllPairs-across IsAbove placed (p ∷ ps) (get_or placed k d) p order (Contains-get_or placed k d below) (Contains-first p ps) in
      omega (arith, above, same)

  later-apart : All (λ (q : Placed). q.line ≡ p.line → ⊥) ps
  later-apart k d below same =
      let above = AllPairs-head IsAbove p ps (AllPairs-back IsAbove placed (p ∷ ps) order) k d below in
      omega (arith, above, same)

-- ---- the whole output

module _ (files : List File) (rules : Rules) (boxes : List BoxTally) (names : HaveOneLineNames files boxes) (recorded : List ℕ) where
  named-boxes : All IsCleanBox boxes
  named-boxes = All-weaker (λ (told : BoxTally). IsOneLine told.name) IsCleanBox (λ told one. one_line-from told.name one) boxes names.boxes_are

  module _ (course : List ImportCourse) (placed : List Placed) (s : State) (out : List ℕ) (so_far : HasPrinted files rules boxes course placed s out)
      (p : Placed) (ps : List Placed) (next : State) (text rest : List ℕ) (from : PrintsFrom files rules next ps rest)
      (fine : All IsFine (placed ++ p ∷ ps)) (order : AllPairs IsAbove (placed ++ p ∷ ps)) (whole : recorded ≡ out ++ (text ++ rest)) where
    -- the report of an import stands among other texts
    own-report : (path : List ℕ) (entry : ImportCourse) (finding : Finding) → IsImported files (source.Under path) (counts_of (trees_in (games_of_segments s.log))) entry finding →
        text ≡ waiting_text s ++ import_line_text p.line (source.Under path) → next.waiting ≡ Some (report_text p.line finding (last_of next)) → IsClean next → (few : p.line < 2 ^ 64) → one_line path ≡ true →
        HasReport p.line few recorded (report_head_of p.line finding (last_of next)) (lines_of_report finding)
    own-report path entry finding is text_is waits state few one =
        let line = p.line in
        let version = last_of next in
        let report = report_text line finding version in
        let before = before-no_report line few files rules names.files_are boxes named-boxes course placed s out so_far (All-before IsFine placed (p ∷ ps) fine) (earlier-apart placed p ps order) in
        let later = All-tail IsFine p ps (All_behind IsFine placed (p ∷ ps) fine) in
        let once = own-printed line few files rules names.files_are next ps rest report from state waits later (later-apart placed p ps order) in
        let begun = import_line_text line (source.Under path) in
        let opened = no_report-then line few (waiting_text s) begun before.waiting (import-no_report line few line few path one) in
        let first = waiting_text s ++ begun in
        record {
          before = out ++ (first ++ once.before);
          after = once.after;
          none_before = no_report-then line few out (first ++ once.before) before.text (no_report-then line few first once.before opened once.none_before);
          none_after = once.none_after;
          one = head-line line finding version;
          are = report-tails finding (found-names files (source.Under path) (counts_of (trees_in (games_of_segments s.log))) entry finding names.files_are is);
          recorded_is = whole ∙ ap (λ t. out ++ (t ++ rest)) text_is ∙ ap (λ t. out ++ (first ++ t)) once.is
              ∙ four-parts out first once.before (report ++ once.after) ∙ ap (λ t. (out ++ (first ++ once.before)) ++ (t ++ once.after)) (report-is line finding version);
        }
      where
        four-parts : (a b c d : List ℕ) → a ++ (b ++ (c ++ d)) ≡ (a ++ (b ++ c)) ++ d
        four-parts a b c d = simp append_assoc

    -- the entry of an import is the one that the output shows
    uses-shown : (own : Statement) (used : List ImportCourse) → p.line < 2 ^ 64 → HasLineNames own → IsPassed files rules s p.line own used text next → UsesShown files recorded s p.line own used
    uses-shown (statement.Import path) used few one is =
        let line = p.line in
        let before = before-no_report line few files rules names.files_are boxes named-boxes course placed s out so_far (All-before IsFine placed (p ∷ ps) fine) (earlier-apart placed p ps order) in
        let state = clean-on files rules names.files_are s next line (statement.Import path) used text before.state is in
        let waits : next.waiting ≡ Some (report_text line is.1 (last_of next)) =
        ap (λ (t : State). t.waiting) is.5 ∙ ap (λ n. Some (report_text line is.1 n)) (sym (ap last_of is.5)) in
        (is.0, is.2, own-shown line few files path (counts_of (trees_in (games_of_segments s.log))) is.0 recorded is.1 (last_of next) is.3 (own-report path is.0 is.1 is.3 is.4 waits state few one))
    uses-shown (statement.Make games start) used few one is = tt
    uses-shown statement.Wait used few one is = tt
    uses-shown (statement.Until number) used few one is = tt
    uses-shown (statement.Search query filter) used few one is = tt
    uses-shown (statement.Together searches) used few one is = tt
    uses-shown (statement.Kept query) used few one is = tt
    uses-shown (statement.Signature pattern) used few one is = tt
    uses-shown statement.Players used few one is = tt
    uses-shown statement.Doubles used few one is = tt
    uses-shown (statement.Game number) used few one is = tt
    uses-shown (statement.Opening shape depth least) used few one is = tt
    uses-shown statement.Report used few one is = tt
    uses-shown (statement.Retire name) used few one is = tt
    uses-shown (statement.Watch name query filter) used few one is = tt
    uses-shown (statement.Watched name) used few one is = tt

  -- what was printed so far is guided, by what is printed from there on
  so-far : (course : List ImportCourse) (placed : List Placed) (s : State) (out : List ℕ) → HasPrinted files rules boxes course placed s out → (ps : List Placed) (rest : List ℕ) → PrintsFrom files rules s ps rest →
      All IsFine (placed ++ ps) → AllPairs IsAbove (placed ++ ps) → recorded ≡ out ++ rest → HasGuided files rules boxes recorded course placed s out
  so-far _ _ _ _ HasPrinted.nothing ps rest from fine order whole = HasGuided.nothing
  so-far _ _ _ _ (HasPrinted.one_more {course} {placed} {s} {out} used p next text printed is) ps rest from fine order whole =
      let all : (placed ++ p ∷ []) ++ ps ≡ placed ++ p ∷ ps = append_assoc placed (p ∷ []) ps in
      let fine_all = subst (All IsFine) all fine in
      let order_all = subst (AllPairs IsAbove) all order in
      let whole_all : recorded ≡ out ++ (text ++ rest) = whole ∙ append_assoc out text rest in
      let own = All-head IsFine p ps (All_behind IsFine placed (p ∷ ps) fine_all) in
      let left : drop (length out) recorded ≡ text ++ rest = ap (drop (length out)) whole_all ∙ drop-append_seam out (text ++ rest) in
      HasGuided.one_more used p next text
      (so-far course placed s out printed (p ∷ ps) (text ++ rest) (one_more used p next text is from) fine_all order_all whole_all)
      (own-pass files rules recorded s next (drop (length out) recorded) rest p.line p.statement used text left is
      (uses-shown course placed s out printed p ps next text rest from fine_all order_all whole_all p.statement used own.few own.names is))

pub own-guided : (files : List File) (rules : Rules) (boxes : List BoxTally) (script : List ℕ) (placed : List Placed) (course : List ImportCourse) (out : List ℕ) → IsScript script placed → HaveOneLineNames files boxes →
    IsLawful files rules boxes course placed out → IsGuidedBy files rules boxes placed out course out
own-guided files rules boxes script placed course out script_is names (s, text, printed, is) =
    let none = append-nil placed in (
      s,
      text,
      so-far files rules boxes names out course placed s text printed [] (waiting_text s) nothing
          (subst (All IsFine) (sym none) (script-fine script placed script_is)) (subst (AllPairs IsAbove) (sym none) script_is.1.ordered) is,
      is,
    )
