-- What was seen of an import in all lines of a record is what the record shows of it.
use Rattle.std.proofs.Common.{◌≡◌, ◌∙◌, ◌⊎◌, inl, inr, ℕ, suc, ◌+◌, ◌^◌, ◌<◌, Bool, true, false, not, List, [], ◌∷◌, ◌++◌, codes, drop, length, take, refl, sym, ap, ap₂, subst, append-nil, append_assoc, arith, true≢false}
use Rattle.std.specs.Prelude.{Contains, cond, if◌then◌else◌, nat_eq, take_while, ◌&&◌, ◌||◌}
use Rattle.std.specs.Fmt.{decimal}
use Rattle.std.specs.List.{prefix_len, starts_with}
use Rattle.std.specs.Str.{bytes_eq}
use Rattle.std.specs.Str.Parse.{AllDigits}
use Rattle.std.proofs.lemmas.Fmt.{decimal_is_IsNumeral}
use Rattle.std.proofs.lemmas.List.{take-append-drop}
use Rattle.std.proofs.lemmas.List.Elements.{Contains-append_cases, Contains-append_left, Contains-append_right}
use Rattle.kb_geometry.proofs.Lists.{Contains-cases, Contains-first}
use Rattle.info_filter.proofs.TableRows.{told_name}
use Rattle.run_audit.specs.Courses.{Seen, name_told, nothing_seen, seen_after, seen_with, tells_files}
use Rattle.run_audit.specs.Shown.{begins_with_digit, files_head, has_line, is_shown_unlisted, lines_in, lines_told, unlisted_line, unread_line}
use Rattle.run_audit.proofs.Digits.{is-digit}

-- ---- members

none_in : (x : List ℕ) → ¬ Contains [] x
none_in x (k, below, is) = omega (arith, below)

one_in : (y x : List ℕ) → Contains (y ∷ []) x → y ≡ x
one_in y x has = elim (Contains-cases y x [] has) [ inl same ↦ same | inr none ↦ absurd (none_in x none) ]

-- ---- lines that begin with a number

digits_begin : (digits rest : List ℕ) → 0 < length digits → AllDigits 10 digits → begins_with_digit (digits ++ rest) ≡ true
digits_begin [] rest some all = absurd (omega arith)
digits_begin (d ∷ ds) rest some all = is-digit d all.0

pub decimal-begins : (n : ℕ) (rest : List ℕ) → n < 2 ^ 64 → begins_with_digit (decimal n ++ rest) ≡ true
decimal-begins n rest few = let numeral = decimal_is_IsNumeral n few in digits_begin (decimal n) rest numeral.0.0 numeral.0.1

pub same-text : (a b : List ℕ) → bytes_eq a b ≡ true → a ≡ b
same-text a b is = elim (told_name a b) [
  | inl both ↦ both.1
  | inr other ↦ absurd (true≢false (sym is ∙ other.0))
]

pub text-same : (a b : List ℕ) → a ≡ b → bytes_eq a b ≡ true
text-same a b is = elim (told_name a b) [
  | inl both ↦ both.0
  | inr other ↦ absurd (other.1 is)
]

-- a line that begins with some bytes
pub begins-split : (line needle : List ℕ) → starts_with nat_eq line needle ≡ true → line ≡ needle ++ drop (length needle) line
begins-split line needle is = sym (take-append-drop (length needle) line) ∙ ap (λ (l : List ℕ). l ++ drop (length needle) line) (sym (same-text needle (take (length needle) line) is))

pub both-or : (b : Bool) → (b ≡ true) ⊎ (b ≡ false)
both-or true = inl refl
both-or false = inr refl

module _ (import : ℕ) (few : import < 2 ^ 64) where
  pub unlisted-digit : (line : List ℕ) → bytes_eq line (unlisted_line import) ≡ true → begins_with_digit line ≡ true
  unlisted-digit line is = ap begins_with_digit (same-text line (unlisted_line import) is) ∙ decimal-begins import (codes " imported unlisted") few

  pub tells-digit : (line : List ℕ) → tells_files import line ≡ true → begins_with_digit line ≡ true
  tells-digit line is =
      let whole = begins-split line (files_head import) is in
      ap begins_with_digit (whole ∙ append_assoc (decimal import) (codes " imported files ") (drop (length (files_head import)) line))
      ∙ decimal-begins import (codes " imported files " ++ drop (length (files_head import)) line) few

  -- a line that begins with no digit is neither
  no-unlisted : (line : List ℕ) → begins_with_digit line ≡ false → bytes_eq line (unlisted_line import) ≡ false
  no-unlisted line none = elim (both-or (bytes_eq line (unlisted_line import))) [
    | inl is ↦ absurd (true≢false (sym (unlisted-digit line is) ∙ none))
    | inr not ↦ not
  ]

  no-tells : (line : List ℕ) → begins_with_digit line ≡ false → tells_files import line ≡ false
  no-tells line none = elim (both-or (tells_files import line)) [
    | inl is ↦ absurd (true≢false (sym (tells-digit line is) ∙ none))
    | inr not ↦ not
  ]

  -- ---- whether it is unlisted

  or-assoc : (a b c : Bool) → (a || b) || c ≡ a || (b || c)
  or-assoc true b c = refl
  or-assoc false b c = refl

  or-false : (a : Bool) → a || false ≡ a
  or-false true = refl
  or-false false = refl

  abbrev listed : List ℕ → Bool
  listed line = bytes_eq line (unlisted_line import)

  -- what a line tells, by whether it begins with a digit
  abbrev told_by : Bool → Seen → List ℕ → Seen
  told_by b seen line = if b then (record {
    unlisted = seen.unlisted || listed line;
    told = seen.told || tells_files import line;
    telling = not seen.told && tells_files import line;
    unread = seen.unread;
  }) else (record seen {
    unread = seen.unread ++ (if seen.telling then name_told line else []);
  })

  with_is : (seen : Seen) (line : List ℕ) (b : Bool) → begins_with_digit line ≡ b → seen_with import seen line ≡ told_by b seen line
  with_is seen line b is = ap (λ (d : Bool). told_by d seen line) is

  seen_unlisted : (seen : Seen) (line : List ℕ) → (seen_with import seen line).unlisted ≡ seen.unlisted || listed line
  seen_unlisted seen line = elim (both-or (begins_with_digit line)) [
    | inl digit ↦ ap (λ (s : Seen). s.unlisted) (with_is seen line true digit)
    | inr none ↦ ap (λ (s : Seen). s.unlisted) (with_is seen line false none) ∙ sym (or-false seen.unlisted) ∙ ap (λ (b : Bool). seen.unlisted || b) (sym (no-unlisted line none))
  ]

  pub after-unlisted : (lines : List (List ℕ)) (seen : Seen) → (seen_after import seen lines).unlisted ≡ seen.unlisted || has_line lines (unlisted_line import)
  after-unlisted [] seen = sym (or-false seen.unlisted)
  after-unlisted (line ∷ lines) seen =
      after-unlisted lines (seen_with import seen line)
      ∙ ap (λ (b : Bool). b || has_line lines (unlisted_line import)) (seen_unlisted seen line)
      ∙ or-assoc seen.unlisted (listed line) (has_line lines (unlisted_line import))

  -- ---- which of its files are unread

  abbrev pub plain : List ℕ → Bool
  plain told = not (begins_with_digit told)

  while_plain : (line : List ℕ) (lines : List (List ℕ)) → begins_with_digit line ≡ false → take_while plain (line ∷ lines) ≡ line ∷ take_while plain lines
  while_plain line lines none =
      let next : 1 + prefix_len plain lines ≡ suc (prefix_len plain lines) = omega arith in
      ap (λ (b : Bool). take (cond (not b) (1 + prefix_len plain lines) 0) (line ∷ lines)) none
      ∙ ap (λ (n : ℕ). take n (line ∷ lines)) next

  while_digit : (line : List ℕ) (lines : List (List ℕ)) → begins_with_digit line ≡ true → take_while plain (line ∷ lines) ≡ []
  while_digit line lines digit = ap (λ (b : Bool). take (cond (not b) (1 + prefix_len plain lines) 0) (line ∷ lines)) digit

  -- the names that lines tell as unread
  abbrev pub names_told : List (List ℕ) → List (List ℕ)
  names_told [] = []
  names_told (line ∷ lines) = name_told line ++ names_told lines

  -- the lines that tell the files of the import, of those that are left
  abbrev pub still : Bool → Bool → List (List ℕ) → List (List ℕ)
  still true told lines = take_while plain lines
  still false true lines = []
  still false false lines = lines_told import lines

  told_lines : (line : List ℕ) (lines : List (List ℕ)) (b : Bool) → tells_files import line ≡ b → lines_told import (line ∷ lines) ≡ (if b then take_while plain lines else lines_told import lines)
  told_lines line lines b is = ap (λ (t : Bool). if t then take_while plain lines else lines_told import lines) is

  -- of the lines behind these
  abbrev pub Follows : List (List ℕ) → Type 0
  Follows lines = (seen : Seen) → (seen.telling ≡ true → seen.told ≡ true) → (seen_after import seen lines).unread ≡ seen.unread ++ names_told (still seen.telling seen.told lines)

  nothing_told : (unread : List (List ℕ)) (telling told : Bool) → unread ≡ unread ++ names_told (still telling told [])
  nothing_told unread true told = sym (append-nil unread)
  nothing_told unread false true = sym (append-nil unread)
  nothing_told unread false false = sym (append-nil unread)

  -- by what is seen with one line more
  follows_on : (lines : List (List ℕ)) → Follows lines → (next : Seen) (telling told : Bool) (unread : List (List ℕ)) → next.telling ≡ telling → next.told ≡ told → next.unread ≡ unread → (telling ≡ true → told ≡ true) →
      (seen_after import next lines).unread ≡ unread ++ names_told (still telling told lines)
  follows_on lines follows next telling told unread is also names fits =
      follows next (λ on. also ∙ fits (sym is ∙ on))
      ∙ (λ i. names i ++ names_told (still (is i) (also i) lines))

  module _ (line : List ℕ) (lines : List (List ℕ)) (follows : Follows lines) (seen : Seen) where
    abbrev whole : Bool → Bool → Type 0
    whole telling told = (seen_after import (seen_with import seen line) lines).unread ≡ seen.unread ++ names_told (still telling told (line ∷ lines))

    on_digit : begins_with_digit line ≡ true → (telling told : Bool) → seen.told ≡ told → (telling ≡ true → told ≡ true) → whole telling told
    on_digit digit true false also fits = absurd (true≢false (sym (fits refl)))
    on_digit digit true true also fits =
        let is = with_is seen line true digit in
        follows_on lines follows (seen_with import seen line) false true seen.unread
        (ap (λ (s : Seen). s.telling) is ∙ ap (λ (b : Bool). not b && tells_files import line) also)
        (ap (λ (s : Seen). s.told) is ∙ ap (λ (b : Bool). b || tells_files import line) also)
        (ap (λ (s : Seen). s.unread) is) (λ e. refl)
        ∙ sym (ap (λ (l : List (List ℕ)). seen.unread ++ names_told l) (while_digit line lines digit))
    on_digit digit false true also fits =
        let is = with_is seen line true digit in
        follows_on lines follows (seen_with import seen line) false true seen.unread
        (ap (λ (s : Seen). s.telling) is ∙ ap (λ (b : Bool). not b && tells_files import line) also)
        (ap (λ (s : Seen). s.told) is ∙ ap (λ (b : Bool). b || tells_files import line) also)
        (ap (λ (s : Seen). s.unread) is) (λ e. refl)
    on_digit digit false false also fits = elim (both-or (tells_files import line)) [
      | inl tells ↦
          let is = with_is seen line true digit in
          follows_on lines follows (seen_with import seen line) true true seen.unread
          (ap (λ (s : Seen). s.telling) is ∙ ap₂ (λ (b t : Bool). not b && t) also tells)
          (ap (λ (s : Seen). s.told) is ∙ ap₂ (λ (b t : Bool). b || t) also tells)
          (ap (λ (s : Seen). s.unread) is) (λ e. refl)
          ∙ sym (ap (λ (l : List (List ℕ)). seen.unread ++ names_told l) (told_lines line lines true tells))
      | inr none ↦
          let is = with_is seen line true digit in
          follows_on lines follows (seen_with import seen line) false false seen.unread
          (ap (λ (s : Seen). s.telling) is ∙ ap₂ (λ (b t : Bool). not b && t) also none)
          (ap (λ (s : Seen). s.told) is ∙ ap₂ (λ (b t : Bool). b || t) also none)
          (ap (λ (s : Seen). s.unread) is) (λ e. e)
          ∙ sym (ap (λ (l : List (List ℕ)). seen.unread ++ names_told l) (told_lines line lines false none))
    ]

    on_plain : begins_with_digit line ≡ false → (telling told : Bool) → seen.telling ≡ telling → seen.told ≡ told → (telling ≡ true → told ≡ true) → whole telling told
    on_plain none true false is also fits = absurd (true≢false (sym (fits refl)))
    on_plain none true true is also fits =
        let with_it = with_is seen line false none in
        follows_on lines follows (seen_with import seen line) true true (seen.unread ++ name_told line)
        (ap (λ (s : Seen). s.telling) with_it ∙ is)
        (ap (λ (s : Seen). s.told) with_it ∙ also)
        (ap (λ (s : Seen). s.unread) with_it ∙ ap (λ (b : Bool). seen.unread ++ (if b then name_told line else [])) is) (λ e. refl)
        ∙ append_assoc seen.unread (name_told line) (names_told (take_while plain lines))
        ∙ sym (ap (λ (l : List (List ℕ)). seen.unread ++ names_told l) (while_plain line lines none))
    on_plain none false true is also fits =
        let with_it = with_is seen line false none in
        follows_on lines follows (seen_with import seen line) false true (seen.unread ++ [])
        (ap (λ (s : Seen). s.telling) with_it ∙ is)
        (ap (λ (s : Seen). s.told) with_it ∙ also)
        (ap (λ (s : Seen). s.unread) with_it ∙ ap (λ (b : Bool). seen.unread ++ (if b then name_told line else [])) is) (λ e. refl)
        ∙ append_assoc seen.unread [] []
    on_plain none false false is also fits =
        let with_it = with_is seen line false none in
        follows_on lines follows (seen_with import seen line) false false (seen.unread ++ [])
        (ap (λ (s : Seen). s.telling) with_it ∙ is)
        (ap (λ (s : Seen). s.told) with_it ∙ also)
        (ap (λ (s : Seen). s.unread) with_it ∙ ap (λ (b : Bool). seen.unread ++ (if b then name_told line else [])) is) (λ e. e)
        ∙ append_assoc seen.unread [] (names_told (lines_told import lines))
        ∙ sym (ap (λ (l : List (List ℕ)). seen.unread ++ names_told l) (told_lines line lines false (no-tells line none)))

    one_more : (seen.telling ≡ true → seen.told ≡ true) → whole seen.telling seen.told
    one_more fits = elim (both-or (begins_with_digit line)) [
      | inl digit ↦ on_digit digit seen.telling seen.told refl fits
      | inr none ↦ on_plain none seen.telling seen.told refl refl fits
    ]

  pub after-unread : (lines : List (List ℕ)) → Follows lines
  after-unread [] seen fits = nothing_told seen.unread seen.telling seen.told
  after-unread (line ∷ lines) seen fits = one_more line lines (after-unread lines) seen fits

  -- ---- a name is told where its line is there

  abbrev tells_name : List ℕ → Bool
  tells_name line = starts_with nat_eq line (codes "unread ")

  one_told : (line name : List ℕ) → Contains (name_told line) name → bytes_eq line (unread_line name) ≡ true
  one_told line name has = elim (both-or (tells_name line)) [
    | inl tells ↦
        let there : Contains (drop 7 line ∷ []) name = subst (λ (b : Bool). Contains (if b then drop 7 line ∷ [] else []) name) tells has in
        text-same line (unread_line name) (begins-split line (codes "unread ") tells ∙ ap (λ (l : List ℕ). codes "unread " ++ l) (one_in (drop 7 line) name there))
    | inr none ↦ absurd (none_in name (subst (λ (b : Bool). Contains (if b then drop 7 line ∷ [] else []) name) none has))
  ]

  told_one : (line name : List ℕ) → bytes_eq line (unread_line name) ≡ true → Contains (name_told line) name
  told_one line name is =
      let whole = same-text line (unread_line name) is in
      subst (λ (l : List ℕ). Contains (name_told l) name) (sym whole) (Contains-first name [])

  or_true : (b : Bool) → b || true ≡ true
  or_true true = refl
  or_true false = refl

  pub names-told : (lines : List (List ℕ)) (name : List ℕ) → Contains (names_told lines) name → has_line lines (unread_line name) ≡ true
  names-told [] name has = absurd (none_in name has)
  names-told (line ∷ lines) name has = elim (Contains-append_cases (name_told line) (names_told lines) name has) [
    | inl here ↦ ap (λ (b : Bool). b || has_line lines (unread_line name)) (one_told line name here)
    | inr there ↦ ap (λ (b : Bool). bytes_eq line (unread_line name) || b) (names-told lines name there) ∙ or_true (bytes_eq line (unread_line name))
  ]

  pub told-names : (lines : List (List ℕ)) (name : List ℕ) → has_line lines (unread_line name) ≡ true → Contains (names_told lines) name
  told-names [] name is = absurd (true≢false (sym is))
  told-names (line ∷ lines) name is = elim (both-or (bytes_eq line (unread_line name))) [
    | inl here ↦ Contains-append_left (name_told line) (names_told lines) name (told_one line name here)
    | inr not_here ↦ Contains-append_right (name_told line) (names_told lines) name (told-names lines name (sym (ap (λ (b : Bool). b || has_line lines (unread_line name)) not_here) ∙ is))
  ]

  -- ---- all lines of a record

  pub all-unlisted : (recorded : List ℕ) → (seen_after import nothing_seen (lines_in recorded)).unlisted ≡ is_shown_unlisted recorded import
  all-unlisted recorded = after-unlisted (lines_in recorded) nothing_seen

  pub all-unread : (recorded : List ℕ) → (seen_after import nothing_seen (lines_in recorded)).unread ≡ names_told (lines_told import (lines_in recorded))
  all-unread recorded = after-unread (lines_in recorded) nothing_seen (λ e. absurd (true≢false (sym e)))
