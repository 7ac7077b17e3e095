-- Days that are written YYYY-MM-DD: that a text writes one only, and whether it writes one.
use Rattle.std.proofs.Common.{◌≡◌, ◌⊎◌, ◌∙◌, ℕ, ℤ, pos, List, length, refl, sym, ap, subst, inl, inr}
use Rattle.std.proofs.lemmas.Bool.Decides.{eqb_tells}
use Rattle.jiff_core.specs.Calendar.{IsCivilDate, days_from_civil}
use Rattle.info_filter.specs.Day.{IsDateText, IsWrittenDay}
use Rattle.info_filter.proofs.DateTexts.{date_once}
use Rattle.info_filter.proofs.SomeDay.{tells_civil, tells_date}

-- a date of one day writes no other
same_civil : (text : List ℕ) (y m d y' m' d' : ℕ) → IsDateText text y m d → IsDateText text y' m' d' → IsCivilDate (pos y') m' d' → IsCivilDate (pos y) m d
same_civil text y m d y' m' d' one other civil =
    let (years, months, days) = date_once text y m d y' m' d' one other in
    subst (λ k. IsCivilDate (pos k) m d) (sym years)
    (subst (λ k. IsCivilDate (pos y') k d) (sym months) (subst (λ k. IsCivilDate (pos y') m' k) (sym days) civil))

pub no_written_day : (text : List ℕ) (y m d : ℕ) → IsDateText text y m d → (IsCivilDate (pos y) m d → ⊥) → (number : ℤ) → IsWrittenDay text number → ⊥
no_written_day text y m d written never number is =
    never (same_civil text y m d is.year is.month is.day written is.written is.in_calendar)

pub written_once : (text : List ℕ) (n k : ℤ) → IsWrittenDay text n → IsWrittenDay text k → n ≡ k
written_once text n k one other =
    let (years, months, days) = date_once text one.year one.month one.day other.year other.month other.day one.written other.written in
    one.number_is
    ∙ ap (λ y. days_from_civil (pos y) one.month one.day) years
    ∙ ap (λ m. days_from_civil (pos other.year) m one.day) months
    ∙ ap (λ d. days_from_civil (pos other.year) other.month d) days
    ∙ sym other.number_is

pub told_written_day : (text : List ℕ) → ((number : ℤ) × IsWrittenDay text number) ⊎ ((number : ℤ) → IsWrittenDay text number → ⊥)
told_written_day text = elim (eqb_tells (length text) 10) [
  | inr (f, other) ↦ inr (λ number is. other is.ten_bytes)
  | inl (t, ten) ↦ elim (tells_date text) [
    | inr never ↦ inr (λ number is. never is.year is.month is.day is.written)
    | inl (y, m, d, written) ↦ elim (tells_civil y m d) [
      | inl civil ↦ inl (days_from_civil (pos y) m d, record { year = y; month = m; day = d; ten_bytes = ten; written = written; in_calendar = civil; number_is = refl })
      | inr never ↦ inr (no_written_day text y m d written never)
    ]
  ]
]
