-- One line of a record more was seen: what it tells of each import.
use Rattle.std.proofs.Common.{◌≡◌, ◌≢◌, ◌∙◌, inl, inr, ℕ, ◌^◌, ◌<◌, Bool, true, false, not, List, [], ◌∷◌, ◌++◌, Option, None, codes, drop, get_or, length, set, refl, sym, ap, append_assoc, arith, true≢false}
use Rattle.std.specs.Prelude.{if◌then◌else◌, ◌&&◌, ◌||◌}
use Rattle.std.specs.Char.{is_ascii_digit}
use Rattle.std.specs.Fmt.{decimal}
use Rattle.std.specs.Str.{bytes_eq}
use Rattle.std.specs.Str.Parse.{AllDigits}
use Rattle.std.proofs.lemmas.Bool.{cases_eq, cases_lt}
use Rattle.std.proofs.lemmas.Fmt.{decimal_injective, decimal_is_IsNumeral}
use Rattle.std.proofs.lemmas.List.{get_or-set_other, get_or-set_same, length-set}
use Rattle.run_audit.specs.Courses.{AreAscending, AreNumbered, Seen, SeesLine, is_place, name_told, seen_after, seen_of, seen_with, tells_files}
use Rattle.run_audit.specs.Shown.{begins_with_digit, files_head, unlisted_line}
use Rattle.run_audit.specs.Standing.{BeginsNoNumber}
use Rattle.run_audit.specs.declared.course.ShownImport.{ShownImport}
use Rattle.run_audit.proofs.CourseSteps.{begins-split, both-or, same-text}
use Rattle.run_audit.proofs.Digits.{is-digit}

-- ---- a number at the front of a line

numbers_split : (a b x y : List ℕ) → AllDigits 10 a → AllDigits 10 b → BeginsNoNumber x → BeginsNoNumber y → a ++ x ≡ b ++ y → (a ≡ b) × (x ≡ y)
numbers_split [] [] x y da db ex ey e = (refl, e)
numbers_split [] (c ∷ cs) [] y da db ex ey e = absurd cc
numbers_split [] (c ∷ cs) (v ∷ vs) y da db ex ey e =
    let same : c ≡ v = cc in absurd (true≢false (sym (is-digit c db.0) ∙ ap is_ascii_digit same ∙ ex))
numbers_split (c ∷ cs) [] x [] da db ex ey e = absurd cc
numbers_split (c ∷ cs) [] x (v ∷ vs) da db ex ey e =
    let same : c ≡ v = cc in absurd (true≢false (sym (is-digit c da.0) ∙ ap is_ascii_digit same ∙ ey))
numbers_split (c ∷ cs) (d ∷ ds) x y da db ex ey e =
    let heads : c ≡ d = cc in
    let tails : cs ++ x ≡ ds ++ y = cc in
    let rest = numbers_split cs ds x y da.1 db.1 ex ey tails in
    ((λ i. heads i ∷ rest.0 i), rest.1)

pub number-split : (m n : ℕ) (x y : List ℕ) → m < 2 ^ 64 → n < 2 ^ 64 → BeginsNoNumber x → BeginsNoNumber y → decimal m ++ x ≡ decimal n ++ y → (m ≡ n) × (x ≡ y)
number-split m n x y m_few n_few ex ey e =
    let both = numbers_split (decimal m) (decimal n) x y (decimal_is_IsNumeral m m_few).0.1 (decimal_is_IsNumeral n n_few).0.1 ex ey e in
    (decimal_injective m n m_few n_few both.0, both.1)

-- ---- what a line with a digit first tells of an import

-- the seen import with nothing that a line tells
abbrev pub passed : Seen → Seen
passed seen = record seen { telling = false }

or_false : (a : Bool) → a || false ≡ a
or_false true = refl
or_false false = refl

and_false : (a : Bool) → a && false ≡ false
and_false true = refl
and_false false = refl

-- by what it tells
abbrev pub digit_seen : Seen → Bool → Bool → Seen
digit_seen seen unlisted tells = record {
  unlisted = seen.unlisted || unlisted;
  told = seen.told || tells;
  telling = not seen.told && tells;
  unread = seen.unread;
}

pub digit-with : (import : ℕ) (seen : Seen) (line : List ℕ) (unlisted tells : Bool) → begins_with_digit line ≡ true → bytes_eq line (unlisted_line import) ≡ unlisted → tells_files import line ≡ tells → seen_with import seen line ≡ digit_seen seen unlisted tells
digit-with import seen line unlisted tells digit is also =
    ap (λ (b : Bool). if b then digit_seen seen (bytes_eq line (unlisted_line import)) (tells_files import line) else record seen { unread = seen.unread ++ (if seen.telling then name_told line else []) }) digit
    ∙ (λ i. digit_seen seen (is i) (also i))

pub plain-with : (import : ℕ) (seen : Seen) (line : List ℕ) → begins_with_digit line ≡ false → seen_with import seen line ≡ record seen { unread = seen.unread ++ (if seen.telling then name_told line else []) }
plain-with import seen line none =
    ap (λ (b : Bool). if b then digit_seen seen (bytes_eq line (unlisted_line import)) (tells_files import line) else record seen { unread = seen.unread ++ (if seen.telling then name_told line else []) }) none

-- the line isn't that of this import
module _ (number import : ℕ) (line told : List ℕ) (few : number < 2 ^ 64) (few_too : import < 2 ^ 64) (is : line ≡ decimal number ++ told) (ended : BeginsNoNumber told) where
  pub unlisted_is : bytes_eq line (unlisted_line import) ≡ true → (number ≡ import) × (told ≡ codes " imported unlisted")
  unlisted_is same = number-split number import told (codes " imported unlisted") few few_too ended refl (sym is ∙ same-text line (unlisted_line import) same)

  pub tells_is : tells_files import line ≡ true → (number ≡ import) × (told ≡ codes " imported files " ++ drop (length (files_head import)) line)
  tells_is tells =
      let rest : List ℕ = drop (length (files_head import)) line in
      number-split number import told (codes " imported files " ++ rest) few few_too ended refl
      (sym is ∙ begins-split line (files_head import) tells ∙ append_assoc (decimal import) (codes " imported files ") rest)

  pub other-unlisted : number ≢ import → bytes_eq line (unlisted_line import) ≡ false
  other-unlisted other = elim (both-or (bytes_eq line (unlisted_line import))) [
    | inl same ↦ absurd (other (unlisted_is same).0)
    | inr none ↦ none
  ]

  pub other-tells : number ≢ import → tells_files import line ≡ false
  other-tells other = elim (both-or (tells_files import line)) [
    | inl same ↦ absurd (other (tells_is same).0)
    | inr none ↦ none
  ]

-- so it is passed
pub other-passed : (number import : ℕ) (line told : List ℕ) (seen : Seen) → number < 2 ^ 64 → import < 2 ^ 64 → line ≡ decimal number ++ told → BeginsNoNumber told → begins_with_digit line ≡ true → number ≢ import → seen_with import seen line ≡ passed seen
other-passed number import line told seen few few_too is ended digit other =
    digit-with import seen line false false digit (other-unlisted number import line told few few_too is ended other) (other-tells number import line told few few_too is ended other)
    ∙ (λ i. record { unlisted = or_false seen.unlisted i; told = or_false seen.told i; telling = and_false (not seen.told) i; unread = seen.unread })

-- no number of 64 bits stands there
pub none-passed : (import : ℕ) (line : List ℕ) (seen : Seen) → import < 2 ^ 64 → begins_with_digit line ≡ true → ((number : ℕ) (rest : List ℕ) → number < 2 ^ 64 → BeginsNoNumber rest → line ≢ decimal number ++ rest) → seen_with import seen line ≡ passed seen
none-passed import line seen few digit none =
    digit-with import seen line false false digit unlisted tells
    ∙ (λ i. record { unlisted = or_false seen.unlisted i; told = or_false seen.told i; telling = and_false (not seen.told) i; unread = seen.unread })
  where
    unlisted : bytes_eq line (unlisted_line import) ≡ false
    unlisted = elim (both-or (bytes_eq line (unlisted_line import))) [
      | inl same ↦ absurd (none import (codes " imported unlisted") few refl (same-text line (unlisted_line import) same))
      | inr not_it ↦ not_it
    ]

    tells : tells_files import line ≡ false
    tells = elim (both-or (tells_files import line)) [
      | inl same ↦
          let rest : List ℕ = drop (length (files_head import)) line in
          absurd (none import (codes " imported files " ++ rest) few refl (begins-split line (files_head import) same ∙ append_assoc (decimal import) (codes " imported files ") rest))
      | inr not_it ↦ not_it
    ]

-- ---- all imports

-- each is passed
pub sees-none : (line : List ℕ) (before : List ShownImport) (telling : Option ℕ) → ((at : ℕ) (d : ShownImport) → at < length before → seen_with (get_or before at d).line (seen_of (get_or before at d) (is_place telling at)) line ≡ seen_of (get_or before at d) false) → SeesLine line before before telling None
sees-none line before telling each = record {
  counted = refl;
  lines = λ at d below. refl;
  seen = λ at d below. sym (each at d below);
}

-- one of them is told something, and the others are as they were
module _ (line : List ℕ) (before : List ShownImport) (place : ℕ) (one : ShownImport) (telling next : Option ℕ) (within : place < length before)
    (line_is : (d : ShownImport) → one.line ≡ (get_or before place d).line)
    (seen_is : (d : ShownImport) → seen_of one (is_place next place) ≡ seen_with (get_or before place d).line (seen_of (get_or before place d) (is_place telling place)) line)
    (each : (at : ℕ) (d : ShownImport) → at < length before → at ≢ place → seen_with (get_or before at d).line (seen_of (get_or before at d) (is_place telling at)) line ≡ seen_of (get_or before at d) (is_place next at)) where
  pub sees-one : SeesLine line before (set before place one) telling next
  sees-one = record {
    counted = length-set before place one;
    lines = λ at d below. elim (cases_eq at place) [
      | inl same ↦
          ap (λ (k : ℕ). (get_or (set before place one) k d).line) same
          ∙ ap (λ (s : ShownImport). s.line) (get_or-set_same before place one d within)
          ∙ line_is d
          ∙ ap (λ (k : ℕ). (get_or before k d).line) (sym same)
      | inr other ↦ ap (λ (s : ShownImport). s.line) (get_or-set_other before place at one d other)
    ];
    seen = λ at d below. elim (cases_eq at place) [
      | inl same ↦
          ap (λ (k : ℕ). seen_of (get_or (set before place one) k d) (is_place next k)) same
          ∙ ap (λ (s : ShownImport). seen_of s (is_place next place)) (get_or-set_same before place one d within)
          ∙ seen_is d
          ∙ ap (λ (k : ℕ). seen_with (get_or before k d).line (seen_of (get_or before k d) (is_place telling k)) line) (sym same)
      | inr other ↦
          ap (λ (s : ShownImport). seen_of s (is_place next at)) (get_or-set_other before place at one d other)
          ∙ sym (each at d below other)
    ];
  }

-- in order of their lines no two imports have one line
pub other-line : (shown : List ShownImport) (place at : ℕ) (d : ShownImport) → AreAscending shown → place < length shown → at < length shown → at ≢ place → (get_or shown place d).line ≢ (get_or shown at d).line
other-line shown place at d ascending within below other same = elim (cases_lt at place) [
  | inl before ↦ omega (arith, same, ascending at place d before within)
  | inr behind ↦ omega (arith, same, ascending place at d (omega (arith, behind, other)) below)
]

-- the same lines of the script are in the same order
pub ascending-same : (before after : List ShownImport) → length after ≡ length before → ((at : ℕ) (d : ShownImport) → at < length before → (get_or after at d).line ≡ (get_or before at d).line) → AreAscending before → AreAscending after
ascending-same before after counted same ascending i j d less below =
    let within : j < length before = omega (arith, below, counted) in
    omega (arith, same i d (omega (arith, less, within)), same j d within, ascending i j d less within)

pub numbered-same : (before after : List ShownImport) → length after ≡ length before → ((at : ℕ) (d : ShownImport) → at < length before → (get_or after at d).line ≡ (get_or before at d).line) → AreNumbered before → AreNumbered after
numbered-same before after counted same numbered i d below =
    let within : i < length before = omega (arith, below, counted) in
    omega (arith, same i d within, numbered i d within)

-- one line more
pub after-push : (import : ℕ) (seen : Seen) (lines : List (List ℕ)) (line : List ℕ) → seen_after import seen (lines ++ line ∷ []) ≡ seen_with import (seen_after import seen lines) line
after-push import seen [] line = refl
after-push import seen (first ∷ lines) line = after-push import (seen_with import seen first) lines line

-- so far this was seen of each
pub record SeenTo (before now : List ShownImport) (telling : Option ℕ) (lines : List (List ℕ)) : Type 0 where
  pub counted : length now ≡ length before
  pub line_same : (at : ℕ) (d : ShownImport) → at < length before → (get_or now at d).line ≡ (get_or before at d).line
  pub seen : AreAscending before → AreNumbered before → (at : ℕ) (d : ShownImport) → at < length before → seen_of (get_or now at d) (is_place telling at) ≡ seen_after (get_or before at d).line (seen_of (get_or before at d) false) lines

pub seen-start : (before : List ShownImport) → SeenTo before before None []
seen-start before = record { counted = refl; line_same = λ at d below. refl; seen = λ ascending numbered at d below. refl }

pub seen-more : (before now after : List ShownImport) (telling next : Option ℕ) (lines : List (List ℕ)) (line : List ℕ) → SeenTo before now telling lines → length after ≡ length now → ((at : ℕ) (d : ShownImport) → at < length now → (get_or after at d).line ≡ (get_or now at d).line)
    → (AreAscending now → AreNumbered now → SeesLine line now after telling next) → SeenTo before after next (lines ++ line ∷ [])
seen-more before now after telling next lines line so_far counted same sees = record {
  counted = counted ∙ so_far.counted;
  line_same = λ at d below. same at d (omega (arith, below, so_far.counted)) ∙ so_far.line_same at d below;
  seen = λ ascending numbered at d below.
      let here : at < length now = omega (arith, below, so_far.counted) in
      let one = (sees (ascending-same before now so_far.counted so_far.line_same ascending) (numbered-same before now so_far.counted so_far.line_same numbered)).seen at d here in
      one
      ∙ (λ i. seen_with (so_far.line_same at d below i) (so_far.seen ascending numbered at d below i) line)
      ∙ sym (after-push (get_or before at d).line (seen_of (get_or before at d) false) lines line);
}
