-- A text has one day or none.
use Rattle.std.proofs.Common.{◌≡◌, ◌⊎◌, ◌∙◌, ◌+◌, ◌++◌, ◌<◌, ◌≤◌, ℕ, ℤ, pos, List, [], ◌∷◌, All, length, Option, Some, None, refl, sym, ap, subst, arith, inl, inr}
use Rattle.std.specs.Char.{digit_value}
use Rattle.std.specs.Str.Parse.{AllDigits, digits_value}
use Rattle.std.proofs.lemmas.Bool.Decides.{eqb_tells, leb_tells}
use Rattle.std.proofs.lemmas.List.Elements.{All-cons, All-nil}
use Rattle.jiff_core.specs.Calendar.{IsCivilDate, IsYear, days_from_civil, days_in_month}
use Rattle.jiff.proofs.SpanFacts.{signed_arith}
use Rattle.info_filter.specs.Day.{IsDateByte, IsDateText, IsDayOf, IsFirstDate, IsNumberOfDigits}
use Rattle.info_filter.specs.DateParts.{BeginsWithNumber, BeginsWithPart, BeginsWithYear, missing, there}
use Rattle.info_filter.proofs.Calendars.{day_once, day_there, no_day}
use Rattle.info_filter.proofs.DateTexts.{made, no_day as no_day_part, no_end, no_month, no_year}

-- one of two, where it can be told
abbrev pub Tells : Type 0 → Type 0
Tells A = A ⊎ ¬ A

tells_le : (a b : ℕ) → Tells (a ≤ b)
tells_le a b = elim (leb_tells a b) [ inl (t, le) ↦ inl le | inr (f, lt) ↦ inr (λ le. absurd (omega (arith, lt, le))) ]

tells_lt : (a b : ℕ) → Tells (a < b)
tells_lt a b = elim (tells_le (a + 1) b) [ inl le ↦ inl (omega (arith, le)) | inr gt ↦ inr (λ lt. gt (omega (arith, lt))) ]

tells_both : {A B : Type 0} → Tells A → Tells B → Tells (A × B)
tells_both (inl a) (inl b) = inl (a, b)
tells_both (inl a) (inr never) = inr (λ both. never both.1)
tells_both (inr never) b = inr (λ both. never both.0)

pub tells_either : {A B : Type 0} → Tells A → Tells B → Tells (A ⊎ B)
tells_either (inl a) b = inl (inl a)
tells_either (inr never) (inl b) = inl (inr b)
tells_either (inr never) (inr none) = inr (λ e. elim e [ inl a ↦ never a | inr b ↦ none b ])

-- ---- the first date

-- a list is parted where the first element without a property stands
part : (P : ℕ → Type 0) → ((b : ℕ) → Tells (P b)) → (xs : List ℕ) → (front : List ℕ) × (rest : List ℕ) × (xs ≡ front ++ rest) × All P front × ((b : ℕ) (more : List ℕ) → rest ≡ b ∷ more → ¬ P b)
part P tells [] = ([], [], refl, All-nil P, λ b more e. absurd cc)
part P tells (x ∷ xs) = elim (tells x) [
  | inl p ↦ let (front, rest, is, all, first) = part P tells xs in (x ∷ front, rest, ap (λ ys. x ∷ ys) is, All-cons P x front p all, first)
  | inr never ↦ ([], x ∷ xs, refl, All-nil P, λ b more e p. let same : x ≡ b = cc (e) in never (subst P (sym same) p))
]

first_some : (text : List ℕ) → (date : List ℕ) × IsFirstDate text date
first_some text =
    let (white, shown, is, skipped, first) = part (λ (b : ℕ). b ≤ 32) (λ b. tells_le b 32) text in
    let (date, rest, shown_is, made_of, longest) = part IsDateByte (λ b. tells_either (tells_both (tells_le 48 b) (tells_le b 57)) (tells_eq b 45)) shown in (
      date,
      record {
        white = white;
        rest = rest;
        parts = is ∙ ap (λ xs. white ++ xs) shown_is;
        skipped = skipped;
        all_skipped = λ b more e. high_enough b (first b more (shown_is ∙ e));
        made = made_of;
        longest = longest;
      },
    )
  where
    tells_eq : (a b : ℕ) → Tells (a ≡ b)
    tells_eq a b = elim (eqb_tells a b) [ inl (t, e) ↦ inl e | inr (f, n) ↦ inr n ]

    high_enough : (b : ℕ) → ¬ (b ≤ 32) → 32 < b
    high_enough b never = elim (leb_tells b 32) [ inl (t, le) ↦ absurd (never le) | inr (f, lt) ↦ lt ]

-- ---- dates

tells_digits : (digits : List ℕ) → Tells (AllDigits 10 digits)
tells_digits [] = inl tt
tells_digits (c ∷ cs) = tells_both (tells_lt (digit_value c) 10) (tells_digits cs)

tells_number : (digits : List ℕ) (many : ℕ) → length digits ≡ many → Tells ((n : ℕ) × IsNumberOfDigits digits many n)
tells_number digits many long = elim (tells_digits digits) [
  | inl all ↦ inl (digits_value 10 digits, record { many_digits = long; all_digits = all; value = refl })
  | inr never ↦ inr (λ (n, number). never number.all_digits)
]

tells_year : (text : List ℕ) → Tells ((n : ℕ) × (rest : List ℕ) × BeginsWithYear text n rest)
tells_year [] = inr (λ (n, rest, (a, b, c, d, is, number)). absurd (cc (is)))
tells_year (a ∷ []) = inr (λ (n, rest, (a', b, c, d, is, number)). let e : 1 ≡ length (a' ∷ b ∷ c ∷ d ∷ rest) = ap length is in absurd (omega (arith, e)))
tells_year (a ∷ b ∷ []) = inr (λ (n, rest, (a', b', c, d, is, number)). let e : 2 ≡ length (a' ∷ b' ∷ c ∷ d ∷ rest) = ap length is in absurd (omega (arith, e)))
tells_year (a ∷ b ∷ c ∷ []) = inr (λ (n, rest, (a', b', c', d, is, number)). let e : 3 ≡ length (a' ∷ b' ∷ c' ∷ d ∷ rest) = ap length is in absurd (omega (arith, e)))
tells_year (a ∷ b ∷ c ∷ d ∷ rest) = elim (tells_number (a ∷ b ∷ c ∷ d ∷ []) 4 refl) [
  | inl (n, number) ↦ inl (n, rest, (a, b, c, d, refl, number))
  | inr never ↦ inr (λ (n, more, (a', b', c', d', is, number)).
      let same : a' ∷ b' ∷ c' ∷ d' ∷ [] ≡ a ∷ b ∷ c ∷ d ∷ [] = cc (is) in
      never (n, subst (λ xs. IsNumberOfDigits xs 4 n) same number))
]

tells_number_part : (text : List ℕ) → Tells ((n : ℕ) × (rest : List ℕ) × BeginsWithNumber text n rest)
tells_number_part [] = inr (λ (n, rest, (a, b, is, number)). absurd (cc (is)))
tells_number_part (x ∷ []) = inr (λ (n, rest, (a, b, is, number)). let e : 1 ≡ length (45 ∷ a ∷ b ∷ rest) = ap length is in absurd (omega (arith, e)))
tells_number_part (x ∷ a ∷ []) = inr (λ (n, rest, (a', b, is, number)). let e : 2 ≡ length (45 ∷ a' ∷ b ∷ rest) = ap length is in absurd (omega (arith, e)))
tells_number_part (x ∷ a ∷ b ∷ rest) = elim (eqb_tells x 45) [
  | inr (f, differ) ↦ inr (λ (n, more, (a', b', is, number)). let same : x ≡ 45 = cc (is) in differ same)
  | inl (t, hyphen) ↦ elim (tells_number (a ∷ b ∷ []) 2 refl) [
    | inl (n, number) ↦ inl (n, rest, (a, b, (λ i. hyphen i ∷ a ∷ b ∷ rest), number))
    | inr never ↦ inr (λ (n, more, (a', b', is, number)).
        let same : a' ∷ b' ∷ [] ≡ a ∷ b ∷ [] = cc (is) in
        never (n, subst (λ xs. IsNumberOfDigits xs 2 n) same number))
  ]
]

tells_part : (text : List ℕ) → Tells ((n : ℕ) × (rest : List ℕ) × BeginsWithPart text n rest)
tells_part [] = inl (1, [], missing refl)
tells_part (x ∷ text) = elim (tells_number_part (x ∷ text)) [
  | inl (n, rest, number) ↦ inl (n, rest, there number)
  | inr never ↦ inr (λ (n, rest, begins). none n rest begins never)
]
  where
    none : (n : ℕ) (rest : List ℕ) → BeginsWithPart (x ∷ text) n rest → ¬ ((n : ℕ) × (rest : List ℕ) × BeginsWithNumber (x ∷ text) n rest) → ⊥
    none _ _ (missing nothing) never = absurd (cc (nothing))
    none n rest (there number) never = never (n, rest, number)

by_end : (date : List ℕ) (y m d : ℕ) (rest more end : List ℕ) → BeginsWithYear date y rest → BeginsWithPart rest m more → BeginsWithPart more d end → ((y : ℕ) × (m : ℕ) × (d : ℕ) × IsDateText date y m d) ⊎ ((y m d : ℕ) → ¬ IsDateText date y m d)
by_end date y m d rest more [] year month day = inl (y, m, d, made date y m d rest more year month day)
by_end date y m d rest more (b ∷ end) year month day = inr (no_end date y m d rest more (b ∷ end) year month day (omega arith))

-- a date is of one form, or of none
pub tells_date : (date : List ℕ) → ((y : ℕ) × (m : ℕ) × (d : ℕ) × IsDateText date y m d) ⊎ ((y m d : ℕ) → ¬ IsDateText date y m d)
tells_date date = elim (tells_year date) [
  | inr never ↦ inr (no_year date (λ n rest year. never (n, rest, year)))
  | inl (y, rest, year) ↦ elim (tells_part rest) [
    | inr never ↦ inr (no_month date y rest year (λ n more month. never (n, more, month)))
    | inl (m, more, month) ↦ elim (tells_part more) [
      | inr never ↦ inr (no_day_part date y m rest more year month (λ n end day. never (n, end, day)))
      | inl (d, end, day) ↦ by_end date y m d rest more end year month day
    ]
  ]
]

-- ---- days

tells_year_number : (y : ℕ) → Tells (IsYear (pos y))
tells_year_number y = elim (tells_le y 9999) [
  | inl le ↦ inl (omega (arith, signed_arith, le), omega (arith, signed_arith, le))
  | inr never ↦ inr (λ within. let high = within.1 in never (omega (arith, signed_arith, high)))
]

pub tells_civil : (y m d : ℕ) → Tells (IsCivilDate (pos y) m d)
tells_civil y m d = tells_three (tells_year_number y) (tells_both (tells_le 1 m) (tells_le m 12)) (tells_both (tells_le 1 d) (tells_le d (days_in_month (pos y) m)))
  where
    tells_three : {A B C : Type 0} → Tells A → Tells B → Tells C → Tells (A × B × C)
    tells_three (inl a) (inl b) (inl c) = inl (a, b, c)
    tells_three (inl a) (inl b) (inr never) = inr (λ all. never all.2)
    tells_three (inl a) (inr never) c = inr (λ all. never all.1)
    tells_three (inr never) b c = inr (λ all. never all.0)

-- a text has one day or none
pub some_day : (text : List ℕ) → (day : Option ℤ) × IsDayOf text day
some_day text =
    let (date, first) = first_some text in
    elim (tells_date date) [
      | inr never ↦ (None, no_day text date first never)
      | inl (y, m, d, written) ↦ elim (tells_civil y m d) [
        | inl civil ↦ (Some (days_from_civil (pos y) m d), day_there text date y m d (Some (days_from_civil (pos y) m d)) first written (civil, refl) (λ none. absurd (cc (none))))
        | inr never ↦ (None, day_there text date y m d None first written tt (λ _. never))
      ]
    ]

pub one_day : (text : List ℕ) (a b : Option ℤ) → IsDayOf text a → IsDayOf text b → a ≡ b
one_day text (Some n) (Some k) one other = ap Some (day_once text n k one other)
one_day text (Some n) None one other = absurd (other n one)
one_day text None (Some k) one other = absurd (one k other)
one_day text None None one other = refl
