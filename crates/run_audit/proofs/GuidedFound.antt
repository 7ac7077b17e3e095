-- Each record has a guided output: any beginning of one is gone on with.
use Rattle.std.proofs.Common.{◌∙◌, ◌⊎◌, inl, inr, ℕ, ◌^◌, ◌<◌, false, List, [], ◌∷◌, ◌++◌, drop, length, codes, refl, sym, subst, append_assoc, arith}
use Rattle.std.specs.Prelude.{max}
use Rattle.std.specs.Fmt.{decimal}
use Rattle.std.proofs.lemmas.List.{append-nil}
use mathlib.Core.List.{IsPrefix}
use Rattle.kb_edges.specs.Files.{File}
use Rattle.hit_collectors.specs.Tallies.{BoxTally}
use Rattle.query_script.specs.Texts.{until_text, wait_text}
use Rattle.query_script.specs.declared.statement.Placed.{Placed}
use Rattle.query_script.specs.declared.statement.PlacedSearch.{PlacedSearch}
use Rattle.query_script.specs.declared.statement.Statement.{Statement}
use Rattle.query_script.specs.declared.statement.Statement.TheVariants as statement
use Rattle.import_work.specs.Course.{ImportCourse, trees_in}
use Rattle.import_work.specs.Log.{games_of_segments}
use Rattle.import_work.specs.Outcome.{counts_of}
use Rattle.import_work.specs.declared.source.Source.TheVariants as source
use Rattle.import_work.proofs.ImportsExist.{import-found}
use Rattle.session_core.specs.Answers.{IsAnswer, IsAnswered, IsWatchBegun, IsWatchMissing, IsWatchTaken, IsWatchTold, View, boxes_text}
use Rattle.session_core.specs.ImportTexts.{import_line_text}
use Rattle.session_core.specs.Lawful.{IsAwaited, IsNamed, NamesNone, NamesVersion, Rules, State, after_import, at_start, last_of, report_printed, view_at, waiting_text, with_floor, with_session}
use Rattle.session_core.specs.SessionState.{SessionState}
use Rattle.session_core.proofs.OneAnswer.{answer-found, retired-found, search-found}
use Rattle.session_core.proofs.WatchAnswers.{watch-found, watched-found}
use Rattle.session_core.proofs.WholeOutputs.{IsReached, reached, trees-at}
use Rattle.run_audit.specs.Chosen.{IsChosen}
use Rattle.run_audit.specs.Guided.{AreGuidedSearches, HasGuided, IsGuided, IsGuidedPass, NamesBehind, left_at_number}
use Rattle.run_audit.specs.Shown.{is_shown_unlisted, is_shown_unread}
use Rattle.run_audit.proofs.ChosenNumbers.{awaited-found, chosen-allowed, named-found}
use Rattle.run_audit.proofs.FewVersions.{AreFew, few-before, few-versions}
use Rattle.run_audit.proofs.GuidedLawful.{guided-printed}
use Rattle.run_audit.proofs.TextHeads.{begun-names, doubles-names, game-names, kept-names, missing-unnamed, names-one, opening-names, players-names, search-names, signature-names, taken-unnamed, told-names, until-names}

module _ (files : List File) (rules : Rules) (recorded : List ℕ) (s : State) (h : IsReached s) (few : last_of s < 2 ^ 64) where
  -- a statement has such a pass
  abbrev Passes : List ℕ → ℕ → Statement → Type 0
  Passes left line own =
      (used : List ImportCourse) × (text : List ℕ) × (next : State) × IsGuidedPass files rules recorded s left line own used text next

  few-named : (k : ℕ) → IsNamed rules s k → k < 2 ^ 64
  few-named k named = let to = named.to in omega (arith, to, few)

  -- the number that a text names is the one that was taken for it
  taken-number : (line : ℕ) (asked left text : List ℕ) (IsAllowed : ℕ → Type 0) → ((k : ℕ) → IsAllowed k → IsNamed rules s k) → (n : ℕ) → IsChosen IsAllowed (left_at_number line asked left) n → NamesBehind line asked text n →
      (number : ℕ) → IsAllowed number → NamesBehind line asked text number → IsChosen IsAllowed (left_at_number line asked left) number
  taken-number line asked left text IsAllowed named n chosen names number allowed also =
      let may = named n (chosen-allowed IsAllowed (left_at_number line asked left) n chosen) in
      let same = names-one line asked text n number (few-named n may) (few-named number (named number allowed)) names also in
      subst (IsChosen IsAllowed (left_at_number line asked left)) same chosen

  searches-guided : (left : List ℕ) (searches : List PlacedSearch) (session : SessionState) → (n : ℕ) × (text : List ℕ) × (after : SessionState) × AreGuidedSearches rules s left searches session n text after
  searches-guided left [] session = (0, [], session, (refl, refl, refl))
  searches-guided left (p ∷ ps) session =
      let number = named-found rules s h.floor (left_at_number p.line (codes "search") left) in
      let first = search-found p.line (view_at s number.0) (trees-at s h number.0) p.query p.filter session in
      let rest = searches-guided (drop (length first.0) left) ps first.1 in
      (max number.0 rest.0, first.0 ++ rest.1, rest.2, (number.0, first.0, first.1, rest.0, rest.1, number.1, first.2, rest.3, refl, refl))

  -- what an answered statement prints and leads to, and the number that its text names
  record Answers (line : ℕ) (asked left : List ℕ) (own : Statement) : Type 0 where
    text : List ℕ
    next : State
    named : NamesVersion rules s (λ view after. IsAnswer line view s.session own text after) [] next
    takes : (number : ℕ) → IsNamed rules s number → NamesBehind line asked text number → IsChosen (IsNamed rules s) (left_at_number line asked left) number

  answers : (line : ℕ) (asked left : List ℕ) (own : Statement) → IsAnswered own → ((n : ℕ) (text : List ℕ) (after : SessionState) → IsAnswer line (view_at s n) s.session own text after → NamesBehind line asked text n) → Answers line asked left own
  answers line asked left own answered names =
      let number = named-found rules s h.floor (left_at_number line asked left) in
      let n = number.0 in
      let may = chosen-allowed (IsNamed rules s) (left_at_number line asked left) n number.1 in
      let found = answer-found line (view_at s n) (trees-at s h n) s.session own answered in record {
        text = found.0;
        next = with_session (with_floor s n) found.1;
        named = (n, found.1, may, found.2, refl, refl);
        takes = taken-number line asked left found.0 (IsNamed rules s) (λ k named. named) n number.1 (names n found.0 found.1 found.2);
      }

  -- a statement that names a version, or none
  record Either (line : ℕ) (asked left : List ℕ) (Leaves : List ℕ → View → SessionState → Type 0) (Tells : List ℕ → SessionState → Type 0) : Type 0 where
    text : List ℕ
    next : State
    either : NamesVersion rules s (Leaves text) [] next ⊎ NamesNone s (Tells text) [] next
    takes : (number : ℕ) → IsNamed rules s number → NamesBehind line asked text number → IsChosen (IsNamed rules s) (left_at_number line asked left) number

  module _ (line : ℕ) (asked left : List ℕ) (Leaves : List ℕ → View → SessionState → Type 0) (Tells : List ℕ → SessionState → Type 0) (names : (n : ℕ) (text : List ℕ) (after : SessionState) → Leaves text (view_at s n) after → NamesBehind line asked text n)
      (unnamed : (text : List ℕ) (after : SessionState) (number : ℕ) → Tells text after → NamesBehind line asked text number → ⊥) where
    either-told : (n : ℕ) → IsChosen (IsNamed rules s) (left_at_number line asked left) n → (text : List ℕ) (after : SessionState) → Leaves text (view_at s n) after ⊎ Tells text after → Either line asked left Leaves Tells
    either-told n chosen text after (inl leaves) = record {
      text = text;
      next = with_session (with_floor s n) after;
      either = inl (n, after, chosen-allowed (IsNamed rules s) (left_at_number line asked left) n chosen, leaves, refl, refl);
      takes = taken-number line asked left text (IsNamed rules s) (λ k named. named) n chosen (names n text after leaves);
    }
    either-told n chosen text after (inr tells) = record {
      text = text;
      next = with_session s after;
      either = inr (after, tells, refl, refl);
      takes = λ number may named. absurd (unnamed text after number tells named);
    }

    either-found : ((n : ℕ) → (text : List ℕ) × (after : SessionState) × (Leaves text (view_at s n) after ⊎ Tells text after)) → Either line asked left Leaves Tells
    either-found told =
        let number = named-found rules s h.floor (left_at_number line asked left) in
        let found = told number.0 in
        either-told number.0 number.1 found.0 found.1 found.2

  pub pass-found : (left : List ℕ) (line : ℕ) (own : Statement) → Passes left line own
  pass-found left line (statement.Import path) =
      let from = source.Under path in
      let found = import-found files from (counts_of (trees_in (games_of_segments s.log))) (is_shown_unlisted recorded line) (is_shown_unread recorded line) in
      let text = waiting_text s ++ import_line_text line from in
      (found.entry ∷ [], text, after_import rules s line found.finding, ((found.entry, found.finding, refl, found.imported, refl, refl), (found.entry, refl, record { finds = found; entry_is = refl }), tt))
  pass-found left line (statement.Make games start) =
      let from = source.Made games start in
      let found = import-found files from (counts_of (trees_in (games_of_segments s.log))) false (λ name. false) in
      let text = waiting_text s ++ import_line_text line from in
      (found.entry ∷ [], text, after_import rules s line found.finding, ((found.entry, found.finding, refl, found.imported, refl, refl), tt, tt))
  pass-found left line statement.Wait =
      ([], waiting_text s ++ wait_text line (last_of s), with_floor (report_printed s) (last_of s), ((refl, refl, refl), tt, tt))
  pass-found left line (statement.Until number) =
      let asked = codes "until " ++ decimal number in
      let found = awaited-found rules s h.floor number (left_at_number line asked left) in
      let n = found.0 in
      let may = chosen-allowed (IsAwaited rules s number) (left_at_number line asked left) n found.1 in
      let takes = taken-number line asked left (until_text line number n) (IsAwaited rules s number) (λ k awaited. awaited.named) n found.1 (until-names line number n (until_text line number n) refl) in
      ([], until_text line number n, with_floor s n, ((n, may, refl, refl, refl), tt, takes))
  pass-found left line (statement.Together searches) =
      let found = searches-guided left searches s.session in
      ([], found.1, with_session (with_floor s found.0) found.2, (found.0, found.2, found.3, refl, refl))
  pass-found left line (statement.Search query filter) =
      let a = answers line (codes "search") left (statement.Search query filter) tt (λ n text after. search-names line (view_at s n) query filter s.session after text) in
      ([], a.text, a.next, (a.named, tt, a.takes))
  pass-found left line (statement.Kept query) =
      let a = answers line (codes "kept") left (statement.Kept query) tt (λ n text after of. kept-names line (view_at s n) query text of.0) in
      ([], a.text, a.next, (a.named, tt, a.takes))
  pass-found left line (statement.Signature pattern) =
      let a = answers line (codes "signature") left (statement.Signature pattern) tt (λ n text after of. signature-names line (view_at s n) pattern.bytes text of.0) in
      ([], a.text, a.next, (a.named, tt, a.takes))
  pass-found left line statement.Players =
      let a = answers line (codes "players") left statement.Players tt (λ n text after of. players-names line (view_at s n) text of.0) in
      ([], a.text, a.next, (a.named, tt, a.takes))
  pass-found left line statement.Doubles =
      let a = answers line (codes "doubles") left statement.Doubles tt (λ n text after of. doubles-names line (view_at s n) text of.0) in
      ([], a.text, a.next, (a.named, tt, a.takes))
  pass-found left line (statement.Game number) =
      let a = answers line (codes "game " ++ decimal number) left (statement.Game number) tt (λ n text after of. game-names line (view_at s n) number text of.0) in
      ([], a.text, a.next, (a.named, tt, a.takes))
  pass-found left line (statement.Opening shape depth least) =
      let a = answers line (codes "opening") left (statement.Opening shape depth least) tt (λ n text after of. opening-names line (view_at s n) shape depth least text of.0) in
      ([], a.text, a.next, (a.named, tt, a.takes))
  pass-found left line statement.Report = ([], boxes_text line s.session.boxes, s, ((refl, refl, refl), tt, tt))
  pass-found left line (statement.Retire name) =
      let found = retired-found line name s.session in
      ([], found.0, with_session s found.1, ((found.1, found.2, refl, refl), tt, tt))
  pass-found left line (statement.Watch name query filter) =
      let e = either-found line (codes "watch " ++ name) left
      (λ text view after. IsWatchBegun line view name query filter s.session text after) (λ text after. IsWatchTaken line name s.session text after)
      (λ n text after. begun-names line (view_at s n) name query filter s.session after text)
      (λ text after number. taken-unnamed line name s.session after text number)
      (λ n. watch-found line (view_at s n) (trees-at s h n) name query filter s.session) in
      ([], e.text, e.next, (e.either, tt, e.takes))
  pass-found left line (statement.Watched name) =
      let e = either-found line (codes "watched " ++ name) left
      (λ text view after. IsWatchTold line view name s.session text after) (λ text after. IsWatchMissing line name s.session text after)
      (λ n text after. told-names line (view_at s n) name s.session after text)
      (λ text after number. missing-unnamed line name s.session after text number)
      (λ n. watched-found line (view_at s n) (trees-at s h n) name s.session) in
      ([], e.text, e.next, (e.either, tt, e.takes))

-- A guided output of these statements that begins with this text.
pub record GoesOn (files : List File) (rules : Rules) (boxes : List BoxTally) (placed : List Placed) (recorded out : List ℕ) : Type 0 where
  pub guided : List ℕ
  pub is_guided : IsGuided files rules boxes placed recorded guided
  pub prefix : IsPrefix out guided

-- a text begins with the first part of what it begins with
begins : (out text whole : List ℕ) → IsPrefix (out ++ text) whole → IsPrefix out whole
begins out text whole (rest, is) = (text ++ rest, sym (append_assoc out text rest) ∙ is)

module _ (files : List File) (rules : Rules) (boxes : List BoxTally) (recorded : List ℕ) where
  -- the closing report follows
  closed : (course : List ImportCourse) (placed : List Placed) (s : State) (out : List ℕ) → HasGuided files rules boxes recorded course placed s out → GoesOn files rules boxes placed recorded out
  closed course placed s out printed = record {
    guided = out ++ waiting_text s;
    is_guided = (course, (s, out, printed, refl));
    prefix = (waiting_text s, refl);
  }

  -- a statement is passed, and then the rest
  further : (p : Placed) (left placed : List Placed) (out text : List ℕ) → GoesOn files rules boxes ((placed ++ p ∷ []) ++ left) recorded (out ++ text) → GoesOn files rules boxes (placed ++ p ∷ left) recorded out
  further p left placed out text rest = record {
    guided = rest.guided;
    is_guided = subst (λ ps. IsGuided files rules boxes ps recorded rest.guided) (append_assoc placed (p ∷ []) left) rest.is_guided;
    prefix = begins out text rest.guided rest.prefix;
  }

  -- any beginning is gone on with
  pub guided-completed : (left : List Placed) (course : List ImportCourse) (placed : List Placed) (s : State) (out : List ℕ) → AreFew rules (placed ++ left) → HasGuided files rules boxes recorded course placed s out → GoesOn files rules boxes (placed ++ left) recorded out
  guided-completed [] course placed s out few printed =
      subst (λ ps. GoesOn files rules boxes ps recorded out) (sym (append-nil placed)) (closed course placed s out printed)
  guided-completed (p ∷ left) course placed s out few printed =
      let lawful = guided-printed files rules recorded boxes course placed s out printed in
      let versions = few-versions files rules boxes course placed s out (few-before rules placed (p ∷ left) few) lawful in
      let (used, text, next, pass) = pass-found files rules recorded s (reached files rules boxes course placed s out lawful) versions (drop (length out) recorded) p.line p.statement in
      further p left placed out text
      (guided-completed left (course ++ used) (placed ++ p ∷ []) next (out ++ text)
      (subst (AreFew rules) (sym (append_assoc placed (p ∷ []) left)) few)
      (HasGuided.one_more used p next text printed pass))

  -- each record has a guided output
  pub guided-found : (placed : List Placed) → AreFew rules placed → (guided : List ℕ) × IsGuided files rules boxes placed recorded guided
  guided-found placed few = let h = guided-completed placed [] [] (at_start boxes) [] few HasGuided.nothing in (h.guided, h.is_guided)
