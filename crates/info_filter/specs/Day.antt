-- The day of a game, which is read from the text of its date (property DT), and days as they are
-- written by themselves.
use Rattle.std.specs.Prelude.{◌≡◌, ◌⊎◌, ℕ, ◌≤◌, ◌<◌, List, ◌∷◌, ◌++◌, length, All, Option, Some, None, ℤ, pos}
use Rattle.std.specs.Str.Parse.{AllDigits, digits_value}
use Rattle.jiff_core.specs.Calendar.{IsCivilDate, days_from_civil}
use Rattle.sgf_reader.specs.Bytes.{digit_nine, digit_zero, space}

-- `-`, which parts a year, a month and a day
abbrev pub hyphen : ℕ
hyphen = 45

-- a byte of which dates are made: a decimal digit or a hyphen
abbrev pub IsDateByte : ℕ → Type 0
IsDateByte b = ((digit_zero ≤ b) × (b ≤ digit_nine)) ⊎ (b ≡ hyphen)

-- The longest run of digits and hyphens behind the white space at the beginning of a text. White
-- space is every byte of at most 32.
pub record IsFirstDate (text date : List ℕ) : Type 0 where
  pub white : List ℕ
  pub rest : List ℕ
  pub parts : text ≡ white ++ (date ++ rest)
  pub skipped : All (λ (b : ℕ). b ≤ space) white
  pub all_skipped : (b : ℕ) (more : List ℕ) → date ++ rest ≡ b ∷ more → space < b
  pub made : All IsDateByte date
  pub longest : (b : ℕ) (more : List ℕ) → rest ≡ b ∷ more → ¬ IsDateByte b

-- a number of so many decimal digits, with zeros in front where it has fewer
pub record IsNumberOfDigits (digits : List ℕ) (many n : ℕ) : Type 0 where
  pub many_digits : length digits ≡ many
  pub all_digits : AllDigits 10 digits
  pub value : digits_value 10 digits ≡ n

-- A year, month and day of the month, written YYYY-MM-DD, YYYY-MM or YYYY. A part that is missing
-- is 1.
pub data IsDateText : List ℕ → ℕ → ℕ → ℕ → Type 0 where
  whole : {y m d : ℕ} (year month day : List ℕ) →
      IsNumberOfDigits year 4 y → IsNumberOfDigits month 2 m → IsNumberOfDigits day 2 d →
      IsDateText (year ++ (hyphen ∷ (month ++ (hyphen ∷ day)))) y m d
  without_day : {y m : ℕ} (year month : List ℕ) →
      IsNumberOfDigits year 4 y → IsNumberOfDigits month 2 m →
      IsDateText (year ++ (hyphen ∷ month)) y m 1
  year_alone : {y : ℕ} (year : List ℕ) →
      IsNumberOfDigits year 4 y →
      IsDateText year y 1 1

-- The game of this date's text was played on this day, by the day's number: its first date is of
-- that form and names a day of the proleptic Gregorian calendar. 1970-01-01 has the number 0.
pub record HasDay (text : List ℕ) (number : ℤ) : Type 0 where
  pub date : List ℕ
  pub year : ℕ
  pub month : ℕ
  pub day : ℕ
  pub first : IsFirstDate text date
  pub written : IsDateText date year month day
  pub in_calendar : IsCivilDate (pos year) month day
  pub number_is : number ≡ days_from_civil (pos year) month day

-- the day of the date's text by its number, or none where the text names no day
abbrev pub IsDayOf : List ℕ → Option ℤ → Type 0
IsDayOf text (Some number) = HasDay text number
IsDayOf text None = (number : ℤ) → ¬ HasDay text number

-- The text is the day with this number, written YYYY-MM-DD: a date of ten bytes has all three parts.
pub record IsWrittenDay (text : List ℕ) (number : ℤ) : Type 0 where
  pub year : ℕ
  pub month : ℕ
  pub day : ℕ
  pub ten_bytes : length text ≡ 10
  pub written : IsDateText text year month day
  pub in_calendar : IsCivilDate (pos year) month day
  pub number_is : number ≡ days_from_civil (pos year) month day
