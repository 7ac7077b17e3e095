-- Lines, and texts that are made of them.
use Rattle.std.proofs.Common.{◌≡◌, ◌∙◌, ℕ, zero, suc, ◌/◌, ◌%◌, ◌<◌, Bool, true, false, cond, List, [], ◌∷◌, ◌++◌, length, refl, sym, ap, subst, append_assoc, arith, leb, ◌^◌, ◌+◌}
use Rattle.std.specs.Prelude.{◌&&◌, ◌||◌, ◌≢◌, ◌==◌, All, not}
use Rattle.std.specs.Char.{digit_value}
use Rattle.std.specs.Fmt.{decimal, digit_glyph, digits, digits_onto}
use Rattle.std.specs.List.{concat, flat_map}
use Rattle.std.specs.Str.Parse.{AllDigits}
use Rattle.std.proofs.lemmas.Bool.{false≢true, le-leb, and_from, and_parts, eq-eqb, eqb-true, lt-ltb, ne_eqb, cond_both}
use Rattle.std.proofs.lemmas.List.Elements.{All-head, All-nil, All-cons, All-tail}
use Rattle.std.proofs.lemmas.List.Splits.{slice_split_at}
use Rattle.std.proofs.lemmas.Fmt.{decimal_is_IsNumeral}
use Rattle.std.proofs.lemmas.Str.{digit_value_digit}
use Rattle.std.proofs.lemmas.Str.Parse.{digit_from_value}
use Rattle.run_audit.specs.Shown.{begins_with_digit, lines_in}

-- ---- tests

pub or-nothing : (b : Bool) → (b || false) ≡ b
or-nothing true = refl
or-nothing false = refl

-- ---- texts without a line feed

abbrev pub one_line : List ℕ → Bool
one_line [] = true
one_line (b ∷ bs) = not (b == 10) && one_line bs

pub one_line-append : (a b : List ℕ) → one_line a ≡ true → one_line b ≡ true → one_line (a ++ b) ≡ true
one_line-append [] b one other = other
one_line-append (x ∷ a) b one other =
    let parts = and_parts (not (x == 10)) (one_line a) one in
    and_from (not (x == 10)) (one_line (a ++ b)) parts.0 (one_line-append a b parts.1 other)

not_feed : (b : ℕ) → b ≢ 10 → not (b == 10) ≡ true
not_feed b other = ap not (ne_eqb b 10 other)

feed_not : (b : ℕ) → not (b == 10) ≡ true → (b == 10) ≡ false
feed_not b is = elim (b == 10) as (λ t. not t ≡ true → t ≡ false) [ true ↦ λ e. sym e | false ↦ λ e. refl ] is

pub one_line-from : (text : List ℕ) → All (λ b. b ≢ 10) text → one_line text ≡ true
one_line-from [] all = refl
one_line-from (b ∷ bs) all =
    and_from (not (b == 10)) (one_line bs) (not_feed b (All-head (λ b. b ≢ 10) b bs all)) (one_line-from bs (All-tail (λ b. b ≢ 10) b bs all))

pub no_feeds : (text : List ℕ) → one_line text ≡ true → All (λ b. (b == 10) ≡ false) text
no_feeds [] one = All-nil (λ b. (b == 10) ≡ false)
no_feeds (b ∷ bs) one =
    let parts = and_parts (not (b == 10)) (one_line bs) one in
    All-cons (λ b. (b == 10) ≡ false) b bs (feed_not b parts.0) (no_feeds bs parts.1)

-- ---- decimal numbers

-- the digits of any number are digits
glyph-digit : (d : ℕ) → d < 10 → digit_value (digit_glyph false d) < 10
glyph-digit d small =
    let is : digit_glyph false d ≡ 48 + d = ap (λ (b : Bool). cond b (48 + d) (87 + d)) (lt-ltb d 10 small) in
    let value = digit_value_digit (48 + d) (omega arith, omega arith) in
    omega (arith, ap digit_value is, value)

digits_onto-digits : (k n : ℕ) (acc : List ℕ) → AllDigits 10 acc → AllDigits 10 (digits_onto k 10 false n acc)
digits_onto-digits zero n acc are = are
digits_onto-digits (suc k) n acc are =
    let g = digit_glyph false (n % 10) in
    let more : AllDigits 10 (g ∷ acc) = (glyph-digit (n % 10) (omega arith), are) in
    cond_both (n / 10 == 0) (g ∷ acc) (digits_onto k 10 false (n / 10) (g ∷ acc)) (AllDigits 10) (λ e. more) (λ e. digits_onto-digits k (n / 10) (g ∷ acc) more)

pub decimal-digits : (n : ℕ) → AllDigits 10 (decimal n)
unfolding digits
decimal-digits n = digits_onto-digits 64 n [] tt

one_line-digits : (ds : List ℕ) → AllDigits 10 ds → one_line ds ≡ true
one_line-digits [] are = refl
one_line-digits (d ∷ ds) are =
    let range = digit_from_value d are.0 in
    and_from (not (d == 10)) (one_line ds) (not_feed d (λ e. absurd (omega (arith, range, e)))) (one_line-digits ds are.1)

pub one_line-decimal : (n : ℕ) → one_line (decimal n) ≡ true
one_line-decimal n = one_line-digits (decimal n) (decimal-digits n)

-- a digit stands first in each number
begins-digits : (ds : List ℕ) → 0 < length ds → AllDigits 10 ds → begins_with_digit ds ≡ true
begins-digits [] some are = absurd (omega arith)
begins-digits (d ∷ ds) some are =
    let range = digit_from_value d are.0 in and_from (leb 48 d) (leb d 57) (le-leb 48 d range.0) (le-leb d 57 range.1)

pub begins-behind : (a b : List ℕ) → begins_with_digit a ≡ true → begins_with_digit (a ++ b) ≡ true
begins-behind [] b is = absurd (false≢true is)
begins-behind (x ∷ a) b is = is

pub begins-decimal : (n : ℕ) (more : List ℕ) → n < 2 ^ 64 → begins_with_digit (decimal n ++ more) ≡ true
begins-decimal n more few =
    let numeral = decimal_is_IsNumeral n few in
    begins-behind (decimal n) more (begins-digits (decimal n) numeral.0.0 numeral.0.1)

-- ---- what a text begins with

-- whether a text begins with this one
abbrev pub begins : List ℕ → List ℕ → Bool
begins [] text = true
begins (b ∷ bs) [] = false
begins (b ∷ bs) (c ∷ cs) = (b == c) && begins bs cs

pub begins-itself : (front rest : List ℕ) → begins front (front ++ rest) ≡ true
begins-itself [] rest = refl
begins-itself (b ∷ front) rest = and_from (b == b) (begins front (front ++ rest)) (eq-eqb b b refl) (begins-itself front rest)

pub begins-split : (front text : List ℕ) → begins front text ≡ true → (rest : List ℕ) × (text ≡ front ++ rest)
begins-split [] text is = (text, refl)
begins-split (b ∷ front) [] is = absurd (false≢true is)
begins-split (b ∷ front) (c ∷ text) is =
    let parts = and_parts (b == c) (begins front text) is in
    let rest = begins-split front text parts.1 in
    let same : b ≡ c = eqb-true b c parts.0 in
    (rest.0, λ i. sym same i ∷ rest.1 i)

pub begins-longer : (front text more : List ℕ) → begins front text ≡ true → begins front (text ++ more) ≡ true
begins-longer front text more is =
    let rest = begins-split front text is in
    ap (begins front) (ap (λ t. t ++ more) rest.1 ∙ append_assoc front rest.0 more) ∙ begins-itself front (rest.0 ++ more)

-- ---- lines

-- the text of lines
abbrev pub text_of : List (List ℕ) → List ℕ
text_of [] = []
text_of (line ∷ lines) = line ++ 10 ∷ text_of lines

pub text_of-append : (a b : List (List ℕ)) → text_of (a ++ b) ≡ text_of a ++ text_of b
text_of-append [] b = refl
text_of-append (line ∷ a) b =
    ap (λ t. line ++ 10 ∷ t) (text_of-append a b) ∙ sym (append_assoc line (10 ∷ text_of a) (text_of b))

-- none of the lines has a line feed
abbrev pub AreLines : List (List ℕ) → Type 0
AreLines [] = Unit {0}
AreLines (line ∷ lines) = (one_line line ≡ true) × AreLines lines

pub AreLines-append : (a b : List (List ℕ)) → AreLines a → AreLines b → AreLines (a ++ b)
AreLines-append [] b one other = other
AreLines-append (line ∷ a) b one other = (one.0, AreLines-append a b one.1 other)

-- what such a text is cut to
pub lines-of : (lines : List (List ℕ)) → AreLines lines → lines_in (text_of lines) ≡ lines ++ [] ∷ []
lines-of [] are = refl
lines-of (line ∷ lines) are =
    slice_split_at (λ b. b == 10) line 10 (text_of lines) (no_feeds line are.0) refl ∙ ap (λ ls. line ∷ ls) (lines-of lines are.1)

-- ---- lines without a digit in front

pub record IsTailLine (line : List ℕ) : Type 0 where
  pub one : one_line line ≡ true
  pub low : begins_with_digit line ≡ false

abbrev pub AreTails : List (List ℕ) → Type 0
AreTails [] = Unit {0}
AreTails (line ∷ lines) = IsTailLine line × AreTails lines

pub AreTails-append : (a b : List (List ℕ)) → AreTails a → AreTails b → AreTails (a ++ b)
AreTails-append [] b one other = other
AreTails-append (line ∷ a) b one other = (one.0, AreTails-append a b one.1 other)

pub AreTails-lines : (lines : List (List ℕ)) → AreTails lines → AreLines lines
AreTails-lines [] are = tt
AreTails-lines (line ∷ lines) are = (are.0.one, AreTails-lines lines are.1)

-- the text is whole lines, none of which begins with a digit
pub record IsTail (text : List ℕ) : Type 0 where
  pub lines : List (List ℕ)
  pub are : AreTails lines
  pub text_is : text ≡ text_of lines

pub tail-none : IsTail []
tail-none = record { lines = []; are = tt; text_is = refl }

pub tail-then : (a b : List ℕ) → IsTail a → IsTail b → IsTail (a ++ b)
tail-then a b one other = record {
  lines = one.lines ++ other.lines;
  are = AreTails-append one.lines other.lines one.are other.are;
  text_is = ap (λ t. t ++ b) one.text_is ∙ ap (λ t. text_of one.lines ++ t) other.text_is ∙ sym (text_of-append one.lines other.lines);
}

pub tail-line : (line : List ℕ) → IsTailLine line → IsTail (line ++ 10 ∷ [])
tail-line line is = record { lines = line ∷ []; are = (is, tt); text_is = refl }

-- the text of each element is such
pub tail-each : {X : Type 0} (f : X → List ℕ) (xs : List X) → ((x : X) → IsTail (f x)) → IsTail (flat_map f xs)
tail-each f [] each = tail-none
tail-each f (x ∷ xs) each = tail-then (f x) (flat_map f xs) (each x) (tail-each f xs each)

pub tail-all : {X : Type 0} (f : X → List ℕ) (xs : List X) → All (λ x. IsTail (f x)) xs → IsTail (flat_map f xs)
tail-all f [] each = tail-none
tail-all f (x ∷ xs) each = tail-then (f x) (flat_map f xs) (All-head (λ y. IsTail (f y)) x xs each) (tail-all f xs (All-tail (λ y. IsTail (f y)) x xs each))

pub tail-same : (a b : List ℕ) → a ≡ b → IsTail b → IsTail a
tail-same a b same is = subst IsTail (sym same) is

-- ---- lines by their pieces

-- each piece is without a line feed
pub one_line-concat : (pieces : List (List ℕ)) → AreLines pieces → one_line (concat pieces) ≡ true
one_line-concat [] are = refl
one_line-concat (piece ∷ pieces) are = one_line-append piece (concat pieces) are.0 (one_line-concat pieces are.1)
