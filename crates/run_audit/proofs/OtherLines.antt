-- Texts without the report of an import at a line, and what a record shows of the import where its report
-- stands among such texts.
use Rattle.std.proofs.Common.{◌≡◌, ◌∙◌, ℕ, ◌^◌, ◌+◌, ◌<◌, Bool, true, false, cond, List, [], ◌∷◌, ◌++◌, length, take, drop, suc, refl, sym, ap, subst, append_assoc, arith}
use Rattle.std.specs.Prelude.{◌||◌, ◌≢◌, codes, not, nat_eq, take_while}
use Rattle.std.specs.Fmt.{decimal}
use Rattle.std.specs.List.{concat, prefix_len, starts_with}
use Rattle.std.specs.Str.{bytes_eq}
use Rattle.std.proofs.lemmas.Bool.{false≢true, false_from_ne_true, cond-true, cond-false, eqb-true, eq-eqb}
use Rattle.std.proofs.lemmas.Fmt.{decimal_injective, decimal_is_IsNumeral}
use Rattle.std.proofs.lemmas.List.{append_cancel_left}
use Rattle.std.proofs.lemmas.List.Folds.{list_any-append}
use Rattle.std.proofs.lemmas.Slice.Eq.{bytes_eq-Decides, starts_is}
use Rattle.run_audit.specs.Chosen.{BeginsWithoutDigit}
use Rattle.run_audit.specs.Shown.{begins_with_digit, files_head, has_line, is_shown_unlisted, is_shown_unread, lines_in, lines_told, unlisted_line, unread_line}
use Rattle.run_audit.proofs.ChosenNumbers.{digits-split}
use Rattle.run_audit.proofs.LineLists.{AreLines, AreLines-append, AreTails, AreTails-lines, IsTail, begins, begins-behind, begins-decimal, begins-itself, begins-longer, begins-split, lines-of, one_line, one_line-append, one_line-concat, one_line-decimal, or-nothing, text_of, text_of-append}

-- ` imported `
abbrev pub imported : List ℕ
imported = codes " imported "

-- the first line begins with a digit, if there is one
abbrev pub StartsHigh : List (List ℕ) → Type 0
StartsHigh [] = Unit {0}
StartsHigh (line ∷ lines) = begins_with_digit line ≡ true

StartsHigh-append : (a b : List (List ℕ)) → StartsHigh a → StartsHigh b → StartsHigh (a ++ b)
StartsHigh-append [] b one other = other
StartsHigh-append (line ∷ a) b one other = one

-- what begins with one text begins with its beginning
begins-behind_both : (front a b : List ℕ) → begins a b ≡ true → begins (front ++ a) (front ++ b) ≡ true
begins-behind_both front a b is =
    let rest = begins-split a b is in
    ap (λ t. begins (front ++ a) (front ++ t)) rest.1 ∙ ap (begins (front ++ a)) (sym (append_assoc front a rest.0)) ∙ begins-itself (front ++ a) rest.0

-- ---- lines that are there

has_line-skip : (front rest : List (List ℕ)) (wanted : List ℕ) → has_line front wanted ≡ false → has_line (front ++ rest) wanted ≡ has_line rest wanted
has_line-skip front rest wanted none = list_any-append (λ (text : List ℕ). bytes_eq text wanted) front rest ∙ ap (λ b. b || has_line rest wanted) none

has_line-kept : (front rest : List (List ℕ)) (wanted : List ℕ) → has_line rest wanted ≡ false → has_line (front ++ rest) wanted ≡ has_line front wanted
has_line-kept front rest wanted none =
    list_any-append (λ (text : List ℕ). bytes_eq text wanted) front rest ∙ ap (λ b. has_line front wanted || b) none ∙ or-nothing (has_line front wanted)

-- one line alone may be the one that is wanted
has_line-among : (before tail after : List (List ℕ)) (head wanted : List ℕ) → has_line before wanted ≡ false → has_line tail wanted ≡ false → has_line after wanted ≡ false → has_line ([] ∷ []) wanted ≡ false →
    has_line (before ++ ((head ∷ tail) ++ (after ++ [] ∷ []))) wanted ≡ bytes_eq head wanted
has_line-among before tail after head wanted none_before none_behind none_after none_last =
    let rest : has_line (tail ++ (after ++ [] ∷ [])) wanted ≡ false =
    has_line-skip tail (after ++ [] ∷ []) wanted none_behind ∙ has_line-skip after ([] ∷ []) wanted none_after ∙ none_last in
    has_line-skip before ((head ∷ tail) ++ (after ++ [] ∷ [])) wanted none_before ∙ ap (λ b. bytes_eq head wanted || b) rest ∙ or-nothing (bytes_eq head wanted)

-- ---- the lines up to one that begins with a digit

abbrev is_low : List ℕ → Bool
is_low told = not (begins_with_digit told)

while-more : (text : List ℕ) (rest : List (List ℕ)) (b : Bool) → is_low text ≡ b → take_while is_low (text ∷ rest) ≡ cond b (text ∷ take_while is_low rest) []
while-more text rest true is =
    ap (λ b. take (cond b (1 + prefix_len is_low rest) 0) (text ∷ rest)) is
    ∙ ap (λ n. take n (text ∷ rest)) {x = 1 + prefix_len is_low rest} {y = suc (prefix_len is_low rest)} (omega arith)
while-more text rest false is = ap (λ b. take (cond b (1 + prefix_len is_low rest) 0) (text ∷ rest)) is

while-tails : (tail rest : List (List ℕ)) → AreTails tail → take_while is_low (tail ++ rest) ≡ tail ++ take_while is_low rest
while-tails [] rest are = refl
while-tails (text ∷ tail) rest are = while-more text (tail ++ rest) true (ap not are.0.low) ∙ ap (λ ls. text ∷ ls) (while-tails tail rest are.1)

while-high : (after : List (List ℕ)) (wanted : List ℕ) → StartsHigh after → bytes_eq [] wanted ≡ false → has_line (take_while is_low (after ++ [] ∷ [])) wanted ≡ false
while-high [] wanted high apart = ap (λ b. b || false) apart
while-high (text ∷ after) wanted high apart = ap (λ ls. has_line ls wanted) (while-more text (after ++ [] ∷ []) false (ap not high))

module _ (line : ℕ) (few : line < 2 ^ 64) where
  -- how the report of an import at the line begins
  abbrev pub mark : List ℕ
  mark = decimal line ++ imported

  -- a line that doesn't begin so
  pub record IsOtherLine (text : List ℕ) : Type 0 where
    pub one : one_line text ≡ true
    pub other : begins mark text ≡ false

  abbrev pub AreOthers : List (List ℕ) → Type 0
  AreOthers [] = Unit {0}
  AreOthers (text ∷ lines) = IsOtherLine text × AreOthers lines

  pub AreOthers-append : (a b : List (List ℕ)) → AreOthers a → AreOthers b → AreOthers (a ++ b)
  AreOthers-append [] b one other = other
  AreOthers-append (text ∷ a) b one other = (one.0, AreOthers-append a b one.1 other)

  AreOthers-lines : (lines : List (List ℕ)) → AreOthers lines → AreLines lines
  AreOthers-lines [] are = tt
  AreOthers-lines (text ∷ lines) are = (are.0.one, AreOthers-lines lines are.1)

  -- the text is whole lines, of which the first begins with a digit, and none is a report's
  pub record HasNoReport (text : List ℕ) : Type 0 where
    pub lines : List (List ℕ)
    pub are : AreOthers lines
    pub high : StartsHigh lines
    pub text_is : text ≡ text_of lines

  pub no_report-none : HasNoReport []
  no_report-none = record { lines = []; are = tt; high = tt; text_is = refl }

  pub no_report-then : (a b : List ℕ) → HasNoReport a → HasNoReport b → HasNoReport (a ++ b)
  no_report-then a b one other = record {
    lines = one.lines ++ other.lines;
    are = AreOthers-append one.lines other.lines one.are other.are;
    high = StartsHigh-append one.lines other.lines one.high other.high;
    text_is = ap (λ t. t ++ b) one.text_is ∙ ap (λ t. text_of one.lines ++ t) other.text_is ∙ sym (text_of-append one.lines other.lines);
  }

  pub no_report-same : (a b : List ℕ) → a ≡ b → HasNoReport b → HasNoReport a
  no_report-same a b same is = subst HasNoReport (sym same) is

  -- a line without a digit in front isn't a report's
  high-mark : begins_with_digit mark ≡ true
  high-mark = begins-decimal line imported few

  low-no_report : (text : List ℕ) → begins_with_digit text ≡ false → begins mark text ≡ false
  low-no_report text low = false_from_ne_true (begins mark text) (λ is.
      let rest = begins-split mark text is in
      false≢true (sym low ∙ ap begins_with_digit rest.1 ∙ begins-behind mark rest.0 high-mark))

  tails-no_report : (lines : List (List ℕ)) → AreTails lines → AreOthers lines
  tails-no_report [] are = tt
  tails-no_report (text ∷ lines) are = (record { one = are.0.one; other = low-no_report text are.0.low }, tails-no_report lines are.1)

  -- a head at any line, and what else stands behind its number than in a report
  head-other : (at : ℕ) (more : List ℕ) → at < 2 ^ 64 → BeginsWithoutDigit more → begins imported more ≡ false → begins mark (decimal at ++ more) ≡ false
  head-other at more at_few ended apart = false_from_ne_true (begins mark (decimal at ++ more)) (λ is.
      let rest = begins-split mark (decimal at ++ more) is in
      let whole : decimal at ++ more ≡ decimal line ++ (imported ++ rest.0) = rest.1 ∙ append_assoc (decimal line) imported rest.0 in
      let same : decimal at ≡ decimal line =
      digits-split (decimal at) (decimal line) more (imported ++ rest.0) (decimal_is_IsNumeral at at_few).0.1 (decimal_is_IsNumeral line few).0.1 ended refl whole in
      let behind : more ≡ imported ++ rest.0 = append_cancel_left (decimal line) more (imported ++ rest.0) (ap (λ t. t ++ more) (sym same) ∙ whole) in
      false≢true (sym apart ∙ ap (begins imported) behind ∙ begins-itself imported rest.0))

  -- a head at another line
  head-elsewhere : (at : ℕ) (more : List ℕ) → at < 2 ^ 64 → at ≢ line → BeginsWithoutDigit more → begins mark (decimal at ++ more) ≡ false
  head-elsewhere at more at_few apart ended = false_from_ne_true (begins mark (decimal at ++ more)) (λ is.
      let rest = begins-split mark (decimal at ++ more) is in
      let whole : decimal at ++ more ≡ decimal line ++ (imported ++ rest.0) = rest.1 ∙ append_assoc (decimal line) imported rest.0 in
      let same : decimal at ≡ decimal line =
      digits-split (decimal at) (decimal line) more (imported ++ rest.0) (decimal_is_IsNumeral at at_few).0.1 (decimal_is_IsNumeral line few).0.1 ended refl whole in
      apart (decimal_injective at line at_few few same))

  -- a head and the lines behind it
  head-no_report : (head tail : List ℕ) → one_line head ≡ true → begins_with_digit head ≡ true → begins mark head ≡ false → IsTail tail → HasNoReport (head ++ 10 ∷ tail)
  head-no_report head tail one high other is = record {
    lines = head ∷ is.lines;
    are = (record { one = one; other = other }, tails-no_report is.lines is.are);
    high = high;
    text_is = ap (λ t. head ++ 10 ∷ t) is.text_is;
  }

  -- the text of a statement at any line that is no report
  pub plain-no_report : (at : ℕ) (pieces : List (List ℕ)) (tail : List ℕ) → at < 2 ^ 64 → AreLines pieces → BeginsWithoutDigit (concat pieces) → begins imported (concat pieces) ≡ false → IsTail tail →
      HasNoReport ((decimal at ++ concat pieces) ++ 10 ∷ tail)
  plain-no_report at pieces tail at_few are ended apart is =
      head-no_report (decimal at ++ concat pieces) tail (one_line-append (decimal at) (concat pieces) (one_line-decimal at) (one_line-concat pieces are))
      (begins-decimal at (concat pieces) at_few) (head-other at (concat pieces) at_few ended apart) is

  -- the text of a statement at another line, reports too
  pub elsewhere-no_report : (at : ℕ) (pieces : List (List ℕ)) (tail : List ℕ) → at < 2 ^ 64 → at ≢ line → AreLines pieces → BeginsWithoutDigit (concat pieces) → IsTail tail →
      HasNoReport ((decimal at ++ concat pieces) ++ 10 ∷ tail)
  elsewhere-no_report at pieces tail at_few apart are ended is =
      head-no_report (decimal at ++ concat pieces) tail (one_line-append (decimal at) (concat pieces) (one_line-decimal at) (one_line-concat pieces are))
      (begins-decimal at (concat pieces) at_few) (head-elsewhere at (concat pieces) at_few apart ended) is

  -- ---- a record in which one report stands

  -- the record is this report, with a head and the lines behind it, among other texts
  pub record HasReport (recorded head : List ℕ) (tail : List (List ℕ)) : Type 0 where
    pub before : List ℕ
    pub after : List ℕ
    pub none_before : HasNoReport before
    pub none_after : HasNoReport after
    pub one : one_line head ≡ true
    pub are : AreTails tail
    pub recorded_is : recorded ≡ before ++ ((head ++ 10 ∷ text_of tail) ++ after)

  module _ (recorded head : List ℕ) (tail : List (List ℕ)) (h : HasReport recorded head tail) where
    -- the lines of the record
    all-lines : lines_in recorded ≡ h.none_before.lines ++ ((head ∷ tail) ++ (h.none_after.lines ++ [] ∷ []))
    all-lines =
        let before = h.none_before.lines in
        let after = h.none_after.lines in
        let all = before ++ ((head ∷ tail) ++ after) in
        let are : AreLines all =
        AreLines-append before ((head ∷ tail) ++ after) (AreOthers-lines before h.none_before.are)
        (AreLines-append (head ∷ tail) after (h.one, AreTails-lines tail h.are) (AreOthers-lines after h.none_after.are)) in
        let whole : recorded ≡ text_of all =
        h.recorded_is ∙ ap (λ t. t ++ ((head ++ 10 ∷ text_of tail) ++ h.after)) h.none_before.text_is ∙ ap (λ t. text_of before ++ ((head ++ 10 ∷ text_of tail) ++ t)) h.none_after.text_is
        ∙ ap (λ t. text_of before ++ t) (sym (text_of-append (head ∷ tail) after)) ∙ sym (text_of-append before ((head ∷ tail) ++ after)) in
        ap lines_in whole ∙ lines-of all are ∙ append_assoc before ((head ∷ tail) ++ after) ([] ∷ []) ∙ ap (λ ls. before ++ ls) (append_assoc (head ∷ tail) after ([] ∷ []))

    -- no other line is one that begins as a report does
    no_report-lacks : (lines : List (List ℕ)) (wanted : List ℕ) → begins mark wanted ≡ true → AreOthers lines → has_line lines wanted ≡ false
    no_report-lacks [] wanted is are = refl
    no_report-lacks (text ∷ lines) wanted is are =
        let here : bytes_eq text wanted ≡ false = false_from_ne_true (bytes_eq text wanted) (λ e.
        false≢true (sym are.0.other ∙ ap (begins mark) ((bytes_eq-Decides text wanted).0 e) ∙ is)) in
        ap (λ b. b || has_line lines wanted) here ∙ no_report-lacks lines wanted is are.1

    -- an empty line begins no report
    empty-no_report : AreOthers ([] ∷ [])
    empty-no_report = (record { one = refl; other = low-no_report [] refl }, tt)

    pub unlisted-shown : is_shown_unlisted recorded line ≡ bytes_eq head (unlisted_line line)
    unlisted-shown =
        let before = h.none_before.lines in
        let after = h.none_after.lines in
        let wanted = unlisted_line line in
        let begun : begins mark wanted ≡ true = begins-behind_both (decimal line) imported (codes " imported unlisted") refl in
        ap (λ ls. has_line ls wanted) all-lines
        ∙ has_line-among before tail after head wanted (no_report-lacks before wanted begun h.none_before.are) (no_report-lacks tail wanted begun (tails-no_report tail h.are))
        (no_report-lacks after wanted begun h.none_after.are) (no_report-lacks ([] ∷ []) wanted begun empty-no_report)

    -- no other line is the first one that tells files
    no_report-told : (lines rest : List (List ℕ)) → AreOthers lines → lines_told line (lines ++ rest) ≡ lines_told line rest
    no_report-told [] rest are = refl
    no_report-told (text ∷ lines) rest are =
        let begun : begins mark (files_head line) ≡ true = begins-behind_both (decimal line) imported (codes " imported files ") refl in
        let here : starts_with nat_eq text (files_head line) ≡ false = false_from_ne_true (starts_with nat_eq text (files_head line)) (λ e.
        let is = (starts_is (λ a b. (eqb-true a b, eq-eqb a b)) text (files_head line) (starts_with nat_eq text (files_head line)) refl).0 e in
        false≢true (sym are.0.other ∙ ap (begins mark) is ∙ begins-longer mark (files_head line) (drop (length (files_head line)) text) begun)) in
        cond-false (starts_with nat_eq text (files_head line)) (take_while (λ told. not (begins_with_digit told)) (lines ++ rest)) (lines_told line (lines ++ rest)) here ∙ no_report-told lines rest are.1

    -- the lines that tell files are those behind the head, and perhaps an empty one
    pub unread-shown : (more name : List ℕ) → head ≡ files_head line ++ more → is_shown_unread recorded line name ≡ has_line tail (unread_line name)
    unread-shown more name is =
        let before = h.none_before.lines in
        let after = h.none_after.lines in
        let here : starts_with nat_eq head (files_head line) ≡ true =
        (starts_is (λ a b. (eqb-true a b, eq-eqb a b)) head (files_head line) (starts_with nat_eq head (files_head line)) refl).1 more is in
        let test = λ (told : List ℕ). not (begins_with_digit told) in
        let rest = after ++ [] ∷ [] in
        let told : lines_told line (lines_in recorded) ≡ tail ++ take_while test rest =
        ap (lines_told line) all-lines ∙ no_report-told before ((head ∷ tail) ++ rest) h.none_before.are
        ∙ cond-true (starts_with nat_eq head (files_head line)) (take_while test (tail ++ rest)) (lines_told line (tail ++ rest)) here ∙ while-tails tail rest h.are in
        ap (λ ls. has_line ls (unread_line name)) told ∙ has_line-kept tail (take_while test rest) (unread_line name) (while-high after (unread_line name) h.none_after.high refl)
