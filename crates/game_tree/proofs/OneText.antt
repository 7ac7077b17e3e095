-- A value is read as one SimpleText only.
use Prim.Native.Nat.{zero}
use Rattle.std.proofs.Common.{◌≡◌, ◌≢◌, ◌∙◌, ◌<◌, ◌≤◌, ◌||◌, ℕ, suc, List, [], ◌∷◌, Bool, false, if◌then◌else◌, eqb, refl, sym, ap, arith, length}
use Rattle.std.proofs.Math.Dec.{leb}
use Rattle.std.proofs.lemmas.Bool.{eqb-true, false_from_ne_true, le-leb, lt-leb}
use Rattle.game_tree.specs.SimpleText.{BreaksLine, IsReadAs, IsSimpleText, byte, carriage_return, carriage_return_line_feed, hidden_break, hidden_byte, itself, last_backslash, line_break, line_feed, line_feed_carriage_return, nothing, white}

-- ---- line breaks

-- the text without this byte, if it begins with it
abbrev without_first : ℕ → List ℕ → List ℕ
without_first c [] = []
without_first c (b ∷ rest) = if eqb b c then rest else b ∷ rest

-- what stands behind a line break at the beginning of a text
abbrev behind_break : List ℕ → List ℕ
behind_break [] = []
behind_break (b ∷ rest) = without_first (if eqb b 10 then 13 else 10) rest

other-eqb : (b c : ℕ) → b ≢ c → eqb b c ≡ false
other-eqb b c other = false_from_ne_true (eqb b c) (λ e. other (eqb-true b c e))

without_first-none : (c : ℕ) (text : List ℕ) → ((more : List ℕ) → text ≢ c ∷ more) → without_first c text ≡ text
without_first-none c [] others = refl
without_first-none c (b ∷ rest) others = rw (other-eqb b c (λ e. others rest (ap (λ d. d ∷ rest) e))) refl

behind_break-is : (value rest : List ℕ) → BreaksLine value rest → behind_break value ≡ rest
behind_break-is _ _ carriage_return_line_feed = refl
behind_break-is _ _ line_feed_carriage_return = refl
behind_break-is _ rest (line_feed alone) = without_first-none 13 rest alone
behind_break-is _ rest (carriage_return alone) = without_first-none 10 rest alone

break-shorter : (value rest : List ℕ) → BreaksLine value rest → length rest < length value
break-shorter _ _ carriage_return_line_feed = omega arith
break-shorter _ _ line_feed_carriage_return = omega arith
break-shorter _ _ (line_feed alone) = omega arith
break-shorter _ _ (carriage_return alone) = omega arith

-- ---- the text

abbrev breaks : ℕ → Bool
breaks b = eqb b 10 || eqb b 13

abbrev shown : ℕ → ℕ
shown b = if leb b 32 then 32 else b

-- what is read behind a backslash, by how the rest is read
abbrev hidden : (List ℕ → List ℕ) → List ℕ → List ℕ
hidden read [] = []
hidden read (b ∷ rest) = if breaks b then read (behind_break (b ∷ rest)) else shown b ∷ read rest

-- a value of at most so many bytes, as SimpleText
abbrev text_within : ℕ → List ℕ → List ℕ
text_within zero value = []
text_within (suc most) [] = []
text_within (suc most) (b ∷ rest) =
    if eqb b 92 then hidden (text_within most) rest
    else if breaks b then 32 ∷ text_within most (behind_break (b ∷ rest))
    else shown b ∷ text_within most rest

shown-is : (b c : ℕ) → IsReadAs b c → shown b ≡ c
shown-is b _ (white low no_feed no_return) = rw (le-leb b 32 low) refl
shown-is b _ (itself high) = rw (lt-leb b 32 high) refl

-- a byte that is read begins no line break
breaks-none : (b c : ℕ) → IsReadAs b c → breaks b ≡ false
breaks-none b _ (white low no_feed no_return) = rw (other-eqb b 10 no_feed, other-eqb b 13 no_return) refl
breaks-none b _ (itself high) = rw (other-eqb b 10 (λ e. omega (arith, e, high)), other-eqb b 13 (λ e. omega (arith, e, high))) refl

hidden-break : (read : List ℕ → List ℕ) (value rest : List ℕ) → BreaksLine value rest → hidden read value ≡ read rest
hidden-break read _ rest carriage_return_line_feed = refl
hidden-break read _ rest line_feed_carriage_return = refl
hidden-break read _ rest (line_feed alone) = ap read (without_first-none 13 rest alone)
hidden-break read _ rest (carriage_return alone) = ap read (without_first-none 10 rest alone)

text-break : (most : ℕ) (value rest : List ℕ) → BreaksLine value rest → text_within (suc most) value ≡ 32 ∷ text_within most rest
text-break most _ rest carriage_return_line_feed = refl
text-break most _ rest line_feed_carriage_return = refl
text-break most _ rest (line_feed alone) = ap (λ text. 32 ∷ text_within most text) (without_first-none 13 rest alone)
text-break most _ rest (carriage_return alone) = ap (λ text. 32 ∷ text_within most text) (without_first-none 10 rest alone)

text_within-is : (most : ℕ) (value text : List ℕ) → length value ≤ most → IsSimpleText value text → text_within most value ≡ text
text_within-is zero _ _ short nothing = refl
text_within-is (suc most) _ _ short nothing = refl
text_within-is zero _ text short (hidden_break b more) = absurd (omega arith)
text_within-is (suc most) _ text short (hidden_break {value = value} {rest = rest} b more) =
    hidden-break (text_within most) value rest b ∙ text_within-is most rest text (omega (arith, break-shorter value rest b)) more
text_within-is zero _ _ short (hidden_byte read more) = absurd (omega arith)
text_within-is (suc most) _ _ short (hidden_byte {b = b} {c = c} {rest = rest} {text = text} read more) =
    rw (breaks-none b c read, shown-is b c read) (ap (λ t. c ∷ t) (text_within-is most rest text (omega arith) more))
text_within-is zero _ _ short (line_break {value = value} {rest = rest} b more) = absurd (omega (arith, break-shorter value rest b))
text_within-is (suc most) value _ short (line_break {rest = rest} {text = text} b more) =
    text-break most value rest b ∙ ap (λ t. 32 ∷ t) (text_within-is most rest text (omega (arith, break-shorter value rest b)) more)
text_within-is zero _ _ short (byte plain read more) = absurd (omega arith)
text_within-is (suc most) _ _ short (byte {b = b} {c = c} {rest = rest} {text = text} plain read more) =
    rw (other-eqb b 92 plain, breaks-none b c read, shown-is b c read) (ap (λ t. c ∷ t) (text_within-is most rest text (omega arith) more))
text_within-is zero _ _ short last_backslash = absurd (omega arith)
text_within-is (suc most) _ _ short last_backslash = refl

pub IsSimpleText-only : (value one other : List ℕ) → IsSimpleText value one → IsSimpleText value other → one ≡ other
IsSimpleText-only value one other a b = sym (text_within-is (length value) value one (omega arith) a) ∙ text_within-is (length value) value other (omega arith) b
