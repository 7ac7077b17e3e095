-- The forms of dates, and how they are parted.
use Rattle.std.proofs.Common.{◌≡◌, ◌∙◌, ◌++◌, ◌≤◌, ◌==◌, ℕ, true, false, List, [], ◌∷◌, length, slice_index_or, Option, Some, None, IfSome, Bor, refl, sym, ap, subst, arith}
use Rattle.std.proofs.lemmas.Bool.{eqb-true}
use Rattle.std.specs.Str.Parse.{digits_value}
use Rattle.info_filter.specs.Day.{IsDateText, IsNumberOfDigits, whole, without_day, year_alone}
use Rattle.info_filter.specs.DateParts.{BeginsWithNumber, BeginsWithPart, BeginsWithYear, missing, there}

-- ---- lists of two and four

two_of : (xs : List ℕ) → length xs ≡ 2 → (a : ℕ) × (b : ℕ) × (xs ≡ a ∷ b ∷ [])
two_of [] e = absurd (omega (arith, e))
two_of (a ∷ []) e = absurd (omega (arith, e))
two_of (a ∷ b ∷ []) e = (a, b, refl)
two_of (a ∷ b ∷ c ∷ rest) e = absurd (omega (arith, e))

four_of : (xs : List ℕ) → length xs ≡ 4 → (a : ℕ) × (b : ℕ) × (c : ℕ) × (d : ℕ) × (xs ≡ a ∷ b ∷ c ∷ d ∷ [])
four_of [] e = absurd (omega (arith, e))
four_of (a ∷ []) e = absurd (omega (arith, e))
four_of (a ∷ b ∷ []) e = absurd (omega (arith, e))
four_of (a ∷ b ∷ c ∷ []) e = absurd (omega (arith, e))
four_of (a ∷ b ∷ c ∷ d ∷ []) e = (a, b, c, d, refl)
four_of (a ∷ b ∷ c ∷ d ∷ f ∷ rest) e = absurd (omega (arith, e))

year_leads : (year rest : List ℕ) (y : ℕ) → IsNumberOfDigits year 4 y → BeginsWithYear (year ++ rest) y rest
year_leads year rest y number =
    let (a, b, c, d, is) = four_of year number.many_digits in
    (a, b, c, d, ap (λ xs. xs ++ rest) is, subst (λ xs. IsNumberOfDigits xs 4 y) is number)

number_leads : (digits rest : List ℕ) (n : ℕ) → IsNumberOfDigits digits 2 n → BeginsWithNumber (45 ∷ (digits ++ rest)) n rest
number_leads digits rest n number =
    let (a, b, is) = two_of digits number.many_digits in
    (a, b, ap (λ xs. 45 ∷ (xs ++ rest)) is, subst (λ xs. IsNumberOfDigits xs 2 n) is number)

-- ---- one reading only

number_once : (digits others : List ℕ) (many n k : ℕ) → digits ≡ others → IsNumberOfDigits digits many n → IsNumberOfDigits others many k → n ≡ k
number_once digits others many n k same one other = sym one.value ∙ ap (digits_value 10) same ∙ other.value

pub year_once : (text : List ℕ) (n k : ℕ) (rest more : List ℕ) → BeginsWithYear text n rest → BeginsWithYear text k more → (n ≡ k) × (rest ≡ more)
year_once text n k rest more (a, b, c, d, is, number) (a', b', c', d', is', number') =
    let whole : a ∷ b ∷ c ∷ d ∷ rest ≡ a' ∷ b' ∷ c' ∷ d' ∷ more = sym is ∙ is' in
    let digits : a ∷ b ∷ c ∷ d ∷ [] ≡ a' ∷ b' ∷ c' ∷ d' ∷ [] = cc in
    let behind : rest ≡ more = cc in
    (number_once _ _ 4 n k digits number number', behind)

pub number_part_once : (text : List ℕ) (n k : ℕ) (rest more : List ℕ) → BeginsWithNumber text n rest → BeginsWithNumber text k more → (n ≡ k) × (rest ≡ more)
number_part_once text n k rest more (a, b, is, number) (a', b', is', number') =
    let whole : 45 ∷ a ∷ b ∷ rest ≡ 45 ∷ a' ∷ b' ∷ more = sym is ∙ is' in
    let digits : a ∷ b ∷ [] ≡ a' ∷ b' ∷ [] = cc in
    let behind : rest ≡ more = cc in
    (number_once _ _ 2 n k digits number number', behind)

no_number : (text : List ℕ) (n : ℕ) (rest : List ℕ) → text ≡ [] → ¬ BeginsWithNumber text n rest
no_number text n rest nothing (a, b, is, number) = let both : [] ≡ 45 ∷ a ∷ b ∷ rest = sym nothing ∙ is in absurd cc

pub part_once : (text : List ℕ) (n k : ℕ) (rest more : List ℕ) → BeginsWithPart text n rest → BeginsWithPart text k more → (n ≡ k) × (rest ≡ more)
part_once text _ _ _ _ (missing nothing) (missing nothing') = (refl, refl)
part_once text _ k _ more (missing nothing) (there part) = absurd (no_number text k more nothing part)
part_once text n _ rest _ (there part) (missing nothing) = absurd (no_number text n rest nothing part)
part_once text n k rest more (there part) (there part') = number_part_once text n k rest more part part'

-- ---- a date and its parts

-- a date by its three parts, of which the last two may be missing
pub record AreParts (date : List ℕ) (y m d : ℕ) : Type 0 where
  pub behind_year : List ℕ
  pub behind_month : List ℕ
  pub year : BeginsWithYear date y behind_year
  pub month : BeginsWithPart behind_year m behind_month
  pub day : BeginsWithPart behind_month d []

no_rest : (xs : List ℕ) → xs ++ [] ≡ xs
no_rest [] = refl
no_rest (x ∷ xs) = ap (λ rest. x ∷ rest) (no_rest xs)

pub parted : (date : List ℕ) (y m d : ℕ) → IsDateText date y m d → AreParts date y m d
parted _ y m d (whole year month day ny nm nd) = record {
  behind_year = 45 ∷ (month ++ (45 ∷ day));
  behind_month = 45 ∷ day;
  year = year_leads year (45 ∷ (month ++ (45 ∷ day))) y ny;
  month = there (number_leads month (45 ∷ day) m nm);
  day = there (subst (λ xs. BeginsWithNumber (45 ∷ xs) d []) (no_rest day) (number_leads day [] d nd));
}
parted _ y m _ (without_day year month ny nm) = record {
  behind_year = 45 ∷ month;
  behind_month = [];
  year = year_leads year (45 ∷ month) y ny;
  month = there (subst (λ xs. BeginsWithNumber (45 ∷ xs) m []) (no_rest month) (number_leads month [] m nm));
  day = missing refl;
}
parted _ y _ _ (year_alone year ny) = record {
  behind_year = [];
  behind_month = [];
  year = subst (λ xs. BeginsWithYear xs y []) (no_rest year) (year_leads year [] y ny);
  month = missing refl;
  day = missing refl;
}

whole_made : (date : List ℕ) (y m d : ℕ) (rest more : List ℕ) → BeginsWithYear date y rest → BeginsWithNumber rest m more → BeginsWithNumber more d [] → IsDateText date y m d
whole_made date y m d rest more (a, b, c, e, date_is, year) (f, g, rest_is, month) (h, i, more_is, day) =
    let is : date ≡ a ∷ b ∷ c ∷ e ∷ 45 ∷ f ∷ g ∷ 45 ∷ h ∷ i ∷ [] = date_is ∙ ap (λ xs. a ∷ b ∷ c ∷ e ∷ xs) (rest_is ∙ ap (λ xs. 45 ∷ f ∷ g ∷ xs) more_is) in
    subst (λ xs. IsDateText xs y m d) (sym is) (whole (a ∷ b ∷ c ∷ e ∷ []) (f ∷ g ∷ []) (h ∷ i ∷ []) year month day)

month_made : (date : List ℕ) (y m : ℕ) (rest : List ℕ) → BeginsWithYear date y rest → BeginsWithNumber rest m [] → IsDateText date y m 1
month_made date y m rest (a, b, c, e, date_is, year) (f, g, rest_is, month) =
    let is : date ≡ a ∷ b ∷ c ∷ e ∷ 45 ∷ f ∷ g ∷ [] = date_is ∙ ap (λ xs. a ∷ b ∷ c ∷ e ∷ xs) rest_is in
    subst (λ xs. IsDateText xs y m 1) (sym is) (without_day (a ∷ b ∷ c ∷ e ∷ []) (f ∷ g ∷ []) year month)

year_made : (date : List ℕ) (y : ℕ) (rest : List ℕ) → rest ≡ [] → BeginsWithYear date y rest → IsDateText date y 1 1
year_made date y rest nothing (a, b, c, e, date_is, year) =
    let is : date ≡ a ∷ b ∷ c ∷ e ∷ [] = date_is ∙ ap (λ xs. a ∷ b ∷ c ∷ e ∷ xs) nothing in
    subst (λ xs. IsDateText xs y 1 1) (sym is) (year_alone (a ∷ b ∷ c ∷ e ∷ []) year)

pub made : (date : List ℕ) (y m d : ℕ) (rest more : List ℕ) → BeginsWithYear date y rest → BeginsWithPart rest m more → BeginsWithPart more d [] → IsDateText date y m d
made date y _ _ rest _ year (missing nothing) (missing _) = year_made date y rest nothing year
made date y _ d rest _ year (missing nothing) (there day) = absurd (no_number [] d [] refl day)
made date y m _ rest more year (there month) (missing nothing) = month_made date y m rest year (subst (BeginsWithNumber rest m) nothing month)
made date y m d rest more year (there month) (there day) = whole_made date y m d rest more year month day

-- ---- where the reading of a date stops

pub no_year : (date : List ℕ) → ((n : ℕ) (rest : List ℕ) → ¬ BeginsWithYear date n rest) → (y m d : ℕ) → ¬ IsDateText date y m d
no_year date none y m d text = let parts = parted date y m d text in none y parts.behind_year parts.year

pub no_month : (date : List ℕ) (n : ℕ) (rest : List ℕ) → BeginsWithYear date n rest → ((k : ℕ) (more : List ℕ) → ¬ BeginsWithPart rest k more) → (y m d : ℕ) → ¬ IsDateText date y m d
no_month date n rest year none y m d text =
    let parts = parted date y m d text in
    let (_, same) = year_once date y n parts.behind_year rest parts.year year in
    none m parts.behind_month (subst (λ xs. BeginsWithPart xs m parts.behind_month) same parts.month)

pub same_behind : (date : List ℕ) (n k : ℕ) (rest more : List ℕ) → BeginsWithYear date n rest → BeginsWithPart rest k more → (y m d : ℕ) → IsDateText date y m d → BeginsWithPart more d []
same_behind date n k rest more year month y m d text =
    let parts = parted date y m d text in
    let (_, same) = year_once date y n parts.behind_year rest parts.year year in
    let (_, behind) = part_once rest m k parts.behind_month more (subst (λ xs. BeginsWithPart xs m parts.behind_month) same parts.month) month in
    subst (λ xs. BeginsWithPart xs d []) behind parts.day

pub no_day : (date : List ℕ) (n k : ℕ) (rest more : List ℕ) → BeginsWithYear date n rest → BeginsWithPart rest k more → ((j : ℕ) (end : List ℕ) → ¬ BeginsWithPart more j end) → (y m d : ℕ) → ¬ IsDateText date y m d
no_day date n k rest more year month none y m d text = none d [] (same_behind date n k rest more year month y m d text)

pub no_end : (date : List ℕ) (n k j : ℕ) (rest more end : List ℕ) → BeginsWithYear date n rest → BeginsWithPart rest k more → BeginsWithPart more j end → 1 ≤ length end → (y m d : ℕ) → ¬ IsDateText date y m d
no_end date n k j rest more end year month day long y m d text =
    let (_, same) = part_once more j d end [] day (same_behind date n k rest more year month y m d text) in
    let short : length end ≡ 0 = ap length same in
    absurd (omega (arith, long, short))

-- a date is of one day
pub date_once : (date : List ℕ) (y m d y' m' d' : ℕ) → IsDateText date y m d → IsDateText date y' m' d' → (y ≡ y') × (m ≡ m') × (d ≡ d')
date_once date y m d y' m' d' one other =
    let a = parted date y m d one in
    let b = parted date y' m' d' other in
    let (years, behind) = year_once date y y' a.behind_year b.behind_year a.year b.year in
    let (months, rest) = part_once b.behind_year m m' a.behind_month b.behind_month (subst (λ xs. BeginsWithPart xs m a.behind_month) behind a.month) b.month in
    let (days, _) = part_once b.behind_month d d' [] [] (subst (λ xs. BeginsWithPart xs d []) rest a.day) b.day in
    (years, months, days)

-- ---- what is told of bytes by their places

-- a text whose first four bytes are no number begins with no year
pub year_missing : (text : List ℕ) → ((n : ℕ) → ¬ IsNumberOfDigits (slice_index_or text 0 0 ∷ slice_index_or text 1 0 ∷ slice_index_or text 2 0 ∷ slice_index_or text 3 0 ∷ []) 4 n) → (n : ℕ) (rest : List ℕ) → ¬ BeginsWithYear text n rest
year_missing text none n rest (a, b, c, d, is, number) =
    let first : a ≡ slice_index_or text 0 0 = sym (ap (λ xs. slice_index_or xs 0 0) is) in
    let second : b ≡ slice_index_or text 1 0 = sym (ap (λ xs. slice_index_or xs 1 0) is) in
    let third : c ≡ slice_index_or text 2 0 = sym (ap (λ xs. slice_index_or xs 2 0) is) in
    let fourth : d ≡ slice_index_or text 3 0 = sym (ap (λ xs. slice_index_or xs 3 0) is) in
    let same : a ∷ b ∷ c ∷ d ∷ [] ≡ slice_index_or text 0 0 ∷ slice_index_or text 1 0 ∷ slice_index_or text 2 0 ∷ slice_index_or text 3 0 ∷ [] = cc in
    none n (subst (λ xs. IsNumberOfDigits xs 4 n) same number)

-- ---- a part that may be missing

pub part_at_end : (text : List ℕ) → true ≡ (length text == 0) → BeginsWithPart text 1 text
part_at_end [] empty = missing refl
part_at_end (b ∷ text) empty = let none : length (b ∷ text) ≡ 0 = eqb-true (length (b ∷ text)) 0 (sym empty) in absurd (omega (arith, none))

pub part_there : (text : List ℕ) (found : Option (ℕ × Bor (List ℕ))) → IfSome found (λ read. BeginsWithNumber text read.0 read.1.now) → IfSome found (λ read. BeginsWithPart text read.0 read.1.now)
part_there text None read = read
part_there text (Some found) read = there read

pub part_missing : (text : List ℕ) → false ≡ (length text == 0) → ((n : ℕ) (rest : List ℕ) → ¬ BeginsWithNumber text n rest) → (n : ℕ) (rest : List ℕ) → ¬ BeginsWithPart text n rest
part_missing text full none _ _ (missing nothing) = let empty : length text ≡ 0 = ap length nothing in absurd cc
part_missing text full none n rest (there part) = none n rest part

pub nothing_left : (text : List ℕ) → true ≡ (length text == 0) → text ≡ []
nothing_left [] empty = refl
nothing_left (b ∷ text) empty = let none : length (b ∷ text) ≡ 0 = eqb-true (length (b ∷ text)) 0 (sym empty) in absurd (omega (arith, none))

pub something_left : (text : List ℕ) → false ≡ (length text == 0) → 1 ≤ length text
something_left [] full = absurd cc
something_left (b ∷ text) full = omega arith
