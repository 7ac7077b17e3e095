-- Numbers of at most ten digits.
use Rattle.std.proofs.Common.{◌≡◌, ◌+◌, ◌*◌, ◌-◌, ◌^◌, ◌<◌, ◌≤◌, ◌∙◌, ◌↔◌, ℕ, suc, List, [], ◌∷◌, get_or, take, drop, length, refl, sym, ap, subst, arith}
use Rattle.std.proofs.Math.Nat.{one-le-pow, pow-suc}
use Rattle.std.proofs.lemmas.List.{take_all}
use Rattle.std.proofs.lemmas.Str.{digit_value_digit}
use Rattle.std.specs.Char.{digit_value}
use Rattle.std.specs.Str.Parse.{AllDigits, digits_value, digits_value_after}
use Rattle.query_script.specs.declared.word.Word.{Word}
use Rattle.query_script.specs.declared.word.Word.TheVariants as word
use Rattle.query_script.specs.Words.{IsNumber}

-- The digits were read up to the rest, and these have this value.
pub record AreDigitsTo (digits : List ℕ) (value : ℕ) (rest : List ℕ) : Type 0 where
  pub value_is : digits_value 10 digits ≡ digits_value_after 10 value rest
  pub are_digits : AllDigits 10 digits ↔ AllDigits 10 rest
  pub few : length rest ≤ 10
  pub bound : value < 10 ^ (10 - length rest)

-- before the first digit
pub AreDigitsTo-start : (digits : List ℕ) → length digits ≤ 10 → AreDigitsTo digits 0 digits
AreDigitsTo-start digits few = record {
  value_is = refl;
  are_digits = ((λ all. all), (λ all. all));
  few = few;
  bound = omega (arith, one-le-pow (10 - length digits) 10 (omega arith));
}

digit_is : (byte digit : ℕ) → byte ≡ 48 + digit → digit ≤ 9 → digit_value byte ≡ digit
digit_is byte digit is low = omega (arith, digit_value_digit byte (omega arith, omega arith))

-- one digit more
bound-more : (value digit count : ℕ) → suc count ≤ 10 → digit ≤ 9 → value < 10 ^ (10 - suc count) → value * 10 + digit < 10 ^ (10 - count)
bound-more value digit count few low bound =
    let power : 10 ^ suc (10 - suc count) ≡ 10 ^ (10 - suc count) * 10 = pow-suc 10 (10 - suc count) in
    let same : suc (10 - suc count) ≡ 10 - count = omega arith in
    let whole : 10 ^ (10 - count) ≡ 10 ^ (10 - suc count) * 10 = ap (λ n. 10 ^ n) (sym same) ∙ power in
    omega arith

one_more_digit : (digits : List ℕ) (value byte digit : ℕ) (rest : List ℕ) → AreDigitsTo digits value (byte ∷ rest) → byte ≡ 48 + digit → digit ≤ 9 → AreDigitsTo digits (value * 10 + digit) rest
one_more_digit digits value byte digit rest so_far is low =
    let same : digit_value byte ≡ digit = digit_is byte digit is low in
    record {
      value_is = so_far.value_is ∙ ap (λ d. digits_value_after 10 (value * 10 + d) rest) same;
      are_digits = ((λ all. (so_far.are_digits.0 all).1), (λ all. so_far.are_digits.1 (omega arith, all)));
      few = omega (arith, so_far.few);
      bound = bound-more value digit (length rest) so_far.few low so_far.bound;
    }

pub AreDigitsTo-more : (digits : List ℕ) (value digit : ℕ) (rest : List ℕ) → AreDigitsTo digits value rest → 1 ≤ length rest → get_or rest 0 0 ≡ 48 + digit → digit ≤ 9 → AreDigitsTo digits (value * 10 + digit) (take (length rest - 1) (drop 1 rest))
AreDigitsTo-more digits value digit [] so_far some is low = absurd (omega arith)
AreDigitsTo-more digits value digit (byte ∷ rest) so_far some is low =
    let whole : take (length (byte ∷ rest) - 1) (drop 1 (byte ∷ rest)) ≡ rest = take_all (length (byte ∷ rest) - 1) rest (omega arith) in
    subst (AreDigitsTo digits (value * 10 + digit)) (sym whole) (one_more_digit digits value byte digit rest so_far is low)

-- a word is one number
pub IsNumber-once : (w : Word) (a b : ℕ) → IsNumber w a → IsNumber w b → a ≡ b
IsNumber-once w a b one other =
    let both : word.Bare one.digits ≡ word.Bare other.digits = sym one.word ∙ other.word in
    let digits : one.digits ≡ other.digits = cc in
    sym one.value_is ∙ ap (digits_value 10) digits ∙ other.value_is
