-- Days of the calendar, as jiff tells them and as the words of specs/ do.
use Rattle.std.proofs.Common.{◌≡◌, ◌∙◌, ◌≤◌, ℕ, List, ℤ, pos, Option, Some, None, IfSome, IsNone, refl, sym, subst, arith, w8, w16, to_z}
use Rattle.std.specs.Prelude.{IfOk, Ok, Err}
use Rattle.std.specs.Result.{result_ok}
use Rattle.std.specs.declared.result.Result.{Result}
use Rattle.std.proofs.lemmas.Int.{to_z_pos}
use Rattle.jiff_core.specs.Calendar.{IsCivilDate, days_from_civil}
use Rattle.info_filter.specs.Day.{HasDay, IsDateText, IsDayOf, IsFirstDate}
use Rattle.info_filter.proofs.DateTexts.{date_once}
use Rattle.info_filter.proofs.FirstDates.{first_once}

-- what is told of the value of an `Ok` that is handed on
pub ok_value : {T E : Type 0} (r : Result T E) (x : T) (P : T → Type 0) → Some x ≡ result_ok r → IfOk r P → P x
ok_value (Ok y) x P is p = let same : y ≡ x = cc in subst P same p
ok_value (Err e) x P is p = absurd cc

-- the day of a date that was made of these parts
pub made_day : (y m d : ℕ) (year : ℤ) (month day : ℕ) (number : ℤ) →
    y ≤ 9999 → m ≤ 99 → d ≤ 99 →
    year ≡ to_z w16 y → pos month ≡ to_z w8 m → pos day ≡ to_z w8 d →
    IsCivilDate year month day → number ≡ days_from_civil year month day →
    IsCivilDate (pos y) m d × (number ≡ days_from_civil (pos y) m d)
made_day y m d year month day number small_year small_month small_day year_is month_is day_is civil number_is =
    let years : year ≡ pos y = year_is ∙ to_z_pos w16 y (omega (arith, small_year)) in
    let months : month ≡ m = let e : pos month ≡ pos m = month_is ∙ to_z_pos w8 m (omega (arith, small_month)) in cc (e) in
    let days : day ≡ d = let e : pos day ≡ pos d = day_is ∙ to_z_pos w8 d (omega (arith, small_day)) in cc (e) in
    (moved years months days civil, number_is ∙ (λ i. days_from_civil (years i) (months i) (days i)))
  where
    moved : year ≡ pos y → month ≡ m → day ≡ d → IsCivilDate year month day → IsCivilDate (pos y) m d
    moved a b c civil = subst (λ z. IsCivilDate z m d) a (subst (λ n. IsCivilDate year n d) b (subst (λ n. IsCivilDate year month n) c civil))

-- the day of a text by its first date
pub day_there : (text date : List ℕ) (y m d : ℕ) (found : Option ℤ) →
    IsFirstDate text date → IsDateText date y m d →
    IfSome found (λ number. IsCivilDate (pos y) m d × (number ≡ days_from_civil (pos y) m d)) →
    (IsNone found → ¬ IsCivilDate (pos y) m d) →
    IsDayOf text found
day_there text date y m d (Some number) first written some none = record {
  date = date;
  year = y;
  month = m;
  day = d;
  first = first;
  written = written;
  in_calendar = some.0;
  number_is = some.1;
}
day_there text date y m d None first written some none = λ number has.
    let same = first_once text has.date date has.first first in
    let (years, months, days) = date_once date has.year has.month has.day y m d (subst (λ xs. IsDateText xs has.year has.month has.day) same has.written) written in
    none refl (subst (λ n. IsCivilDate (pos n) m d) years (subst (λ n. IsCivilDate (pos has.year) n d) months (subst (λ n. IsCivilDate (pos has.year) has.month n) days has.in_calendar)))

-- a text whose first date is in no form has no day
pub no_day : (text date : List ℕ) → IsFirstDate text date → ((y m d : ℕ) → ¬ IsDateText date y m d) → (number : ℤ) → ¬ HasDay text number
no_day text date first none number has =
    let same = first_once text has.date date has.first first in
    none has.year has.month has.day (subst (λ xs. IsDateText xs has.year has.month has.day) same has.written)

-- a text has one day at most
pub day_once : (text : List ℕ) (n k : ℤ) → HasDay text n → HasDay text k → n ≡ k
day_once text n k a b =
    let same = first_once text a.date b.date a.first b.first in
    let (years, months, days) = date_once b.date a.year a.month a.day b.year b.month b.day (subst (λ xs. IsDateText xs a.year a.month a.day) same a.written) b.written in
    a.number_is ∙ (λ i. days_from_civil (pos (years i)) (months i) (days i)) ∙ sym b.number_is
