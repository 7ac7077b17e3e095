-- Digits at the front of a text, and the number that they write.
use Rattle.std.proofs.Common.{◌≡◌, ◌∙◌, ℕ, suc, zero, ◌+◌, ◌*◌, ◌^◌, ◌<◌, ◌≤◌, Bool, true, false, List, [], ◌∷◌, ◌++◌, drop, get_or, length, take, refl, sym, ap, ap₂, subst, append-nil, arith, true≢false}
use Rattle.std.specs.Prelude.{leb, ◌&&◌}
use Rattle.std.specs.Char.{digit_value, is_ascii_digit}
use Rattle.std.specs.Fmt.{decimal}
use Rattle.std.specs.Str.Parse.{AllDigits, digits_value, digits_value_after}
use Rattle.std.proofs.lemmas.Fmt.{decimal_digit, decimal_is_IsNumeral, decimal-digits_value, first_decimal, length-decimal-le}
use Rattle.core.proofs.str.Laws.{both}
use Rattle.std.proofs.lemmas.Bool.{le-leb}
use Rattle.std.proofs.lemmas.Str.{digit_value_digit}
use borrow.Author.Tests.{leb-true}
use Rattle.std.proofs.lemmas.List.{length-take-le, take_more}
use Rattle.std.proofs.lemmas.Str.Parse.{digit_from_value, numerals_by_value, tells_digits}
use Rattle.run_audit.specs.Chosen.{BeginsWithoutDigit, StandsAt}
use Rattle.run_audit.specs.Standing.{BeginsNoNumber}

-- ---- how many digits stand at the front

-- a byte that has the value of a digit is one
pub is-digit : (byte : ℕ) → digit_value byte < 10 → is_ascii_digit byte ≡ true
is-digit byte small = let range = digit_from_value byte small in ap₂ (λ x y. x && y) (le-leb 48 byte range.0) (le-leb byte 57 range.1)

digits-push : (bytes : List ℕ) (byte : ℕ) → AllDigits 10 bytes → digit_value byte < 10 → AllDigits 10 (bytes ++ byte ∷ [])
digits-push [] byte all more = (more, tt)
digits-push (b ∷ bs) byte all more = (all.0, digits-push bs byte all.1 more)

-- a digit has the value of one
digit-small : (byte : ℕ) → is_ascii_digit byte ≡ true → digit_value byte < 10
digit-small byte is =
    let m = both (leb 48 byte) (leb byte 57) is in
    let low = leb-true 48 byte m.0 in
    let high = leb-true byte 57 m.1 in
    omega (arith, low, high, digit_value_digit byte (low, high))

pub digits-next : (bytes : List ℕ) (at : ℕ) (b : Bool) → at < length bytes → AllDigits 10 (take at bytes) → b ≡ is_ascii_digit (get_or bytes at 0) → b ≡ true → AllDigits 10 (take (at + 1) bytes)
digits-next bytes at b below all is holds =
    subst (AllDigits 10) (sym (take_more bytes at 0 below))
    (digits-push (take at bytes) (get_or bytes at 0) all (digit-small (get_or bytes at 0) (sym is ∙ holds)))

begins-no-number : (bytes : List ℕ) → (0 < length bytes → is_ascii_digit (get_or bytes 0 0) ≡ false) → BeginsNoNumber bytes
begins-no-number [] first = tt
begins-no-number (byte ∷ bytes) first = first (omega arith)

-- the digits that are counted are all of them
count-one : (digits behind : List ℕ) (count : ℕ) → AllDigits 10 digits → BeginsNoNumber behind → AllDigits 10 (take count (digits ++ behind)) → count ≤ length (digits ++ behind)
    → (count ≤ length digits → BeginsNoNumber (drop count (digits ++ behind))) → take count (digits ++ behind) ≡ digits
count-one [] behind zero are ended all within stops = refl
count-one [] [] (suc count) are ended all within stops = absurd (omega arith)
count-one [] (byte ∷ bytes) (suc count) are ended all within stops = absurd (true≢false (sym (is-digit byte all.0) ∙ ended))
count-one (d ∷ ds) behind zero are ended all within stops = absurd (true≢false (sym (is-digit d are.0) ∙ stops (omega arith)))
count-one (d ∷ ds) behind (suc count) are ended all within stops =
    ap (λ l. d ∷ l) (count-one ds behind count are.1 ended all.1 (omega arith) (λ few. stops (omega arith)))

-- those of a number of 64 bits
pub digits-are : (bytes rest : List ℕ) (number count : ℕ) → number < 2 ^ 64 → BeginsNoNumber rest → bytes ≡ decimal number ++ rest → count ≤ length bytes → AllDigits 10 (take count bytes)
    → (count ≤ 20 → BeginsNoNumber (drop count bytes)) → take count bytes ≡ decimal number
digits-are bytes rest number count few ended is within all stops =
    let numeral = decimal_is_IsNumeral number few in
    let short : length (decimal number) ≤ 20 = length-decimal-le 20 number (omega arith) (omega arith) few in
    ap (take count) is
    ∙ count-one (decimal number) rest count numeral.0.1 ended (subst (λ l. AllDigits 10 (take count l)) is all) (omega (arith, within, ap length is))
    (λ low. subst (λ l. BeginsNoNumber (drop count l)) is (stops (omega (arith, short))))

-- ---- how a number is written

abbrev pub IsWritten : List ℕ → Type 0
IsWritten digits = (0 < length digits) × (get_or digits 0 0 ≡ 48 → length digits ≡ 1)

decimal-zero : length (decimal 0) ≡ 1
decimal-zero = ap length (decimal_digit 0 (omega arith))

pub decimal-written : (number : ℕ) → number < 2 ^ 64 → IsWritten (decimal number)
decimal-written zero few = (omega (arith, decimal-zero), λ lead. decimal-zero)
decimal-written (suc n) few = ((decimal_is_IsNumeral (suc n) few).0.0, λ lead. absurd (omega (arith, lead, first_decimal (suc n) (omega arith) few)))

pub written-decimal : (digits : List ℕ) (number : ℕ) → AllDigits 10 digits → IsWritten digits → digits_value 10 digits ≡ number → number < 2 ^ 64 → digits ≡ decimal number
written-decimal digits number all (some, lead) is few =
    sym (decimal-digits_value (numerals_by_value (AllDigits 10) tells_digits) digits all some lead (omega (arith, is, few))) ∙ ap decimal is

-- behind so many digits no other stands, where they are the digits of a number of 64 bits
pub no-more-digits : (bytes digits : List ℕ) (number count : ℕ) → digits ≡ decimal number → number < 2 ^ 64 → digits ≡ take count bytes → count ≤ length bytes → (count ≤ 20 → BeginsNoNumber (drop count bytes)) → BeginsNoNumber (drop count bytes)
no-more-digits bytes digits number count is few front within stops =
    let short : length (decimal number) ≤ 20 = length-decimal-le 20 number (omega arith) (omega arith) few in
    stops (omega (arith, short, ap length is, ap length front, length-take-le count bytes within))

-- ---- the value of digits

pub value-bound : (value : ℕ) (digits : List ℕ) → value ≤ digits_value_after 10 value digits
value-bound value [] = omega arith
value-bound value (digit ∷ digits) = omega (arith, value-bound (value * 10 + digit_value digit) digits)

pub overflow-stays : (digits rest : List ℕ) (value : ℕ) → digits_value 10 digits ≡ digits_value_after 10 value rest → 1 ≤ length rest → 2 ^ 64 ≤ value * 10 + digit_value (get_or rest 0 0) → 2 ^ 64 ≤ digits_value 10 digits
overflow-stays digits [] value is some past = absurd (omega arith)
overflow-stays digits (digit ∷ rest) value is some past = omega (arith, is, past, value-bound (value * 10 + digit_value digit) rest)

-- ---- a number, and a byte behind it

pub ended-number : (bytes : List ℕ) → BeginsWithoutDigit bytes → BeginsNoNumber bytes
ended-number [] ended = tt
ended-number (byte ∷ bytes) ended = ended

pub ended-more : (bytes : List ℕ) → 0 < length bytes → BeginsNoNumber bytes → BeginsWithoutDigit bytes
ended-more [] some ended = absurd (omega arith)
ended-more (byte ∷ bytes) some ended = ended

-- digits to the end are no number with a byte behind it
all-digits : (digits behind : List ℕ) → AllDigits 10 (digits ++ behind) → ¬ BeginsWithoutDigit behind
all-digits [] [] all ended = ended
all-digits [] (byte ∷ bytes) all ended = true≢false (sym (is-digit byte all.0) ∙ ended)
all-digits (d ∷ ds) behind all ended = all-digits ds behind all.1 ended

pub to-the-end : (bytes : List ℕ) (number other : ℕ) → number < 2 ^ 64 → bytes ≡ decimal number ++ [] → ¬ StandsAt bytes other
to-the-end bytes number other few is stands =
    let all : AllDigits 10 bytes = subst (AllDigits 10) (sym (append-nil (decimal number)) ∙ sym is) (decimal_is_IsNumeral number few).0.1 in
    all-digits (decimal other) stands.behind (subst (AllDigits 10) stands.begins all) stands.ended
