-- Each value is read as some SimpleText.
use Prim.Native.Nat.{zero}
use Rattle.std.proofs.Common.{◌≡◌, ◌≢◌, ◌⊎◌, ◌≤◌, ℕ, suc, List, [], ◌∷◌, Option, Some, None, sym, ap, subst, arith, length, inl, inr}
use Rattle.std.proofs.lemmas.Bool.{cases_eq, cases_lt}
use Rattle.sgf_reader.specs.declared.collection.Pair.{Pair}
use Rattle.game_tree.specs.Property.{bytes_of}
use Rattle.game_tree.specs.SimpleText.{BreaksLine, IsReadAs, IsSimpleText, byte, carriage_return, carriage_return_line_feed, hidden_break, hidden_byte, itself, last_backslash, line_break, line_feed, line_feed_carriage_return, nothing, white}
use Rattle.game_tree.specs.Trees.{IsTextOf}

-- the text begins with this byte or not
begins-or-not : (c : ℕ) (text : List ℕ) → ((more : List ℕ) × (text ≡ c ∷ more)) ⊎ ((more : List ℕ) → text ≢ c ∷ more)
begins-or-not c [] = inr (λ more e. cc)
begins-or-not c (b ∷ text) = elim (cases_eq b c) [
  | inl same ↦ inl (text, ap (λ d. d ∷ text) same)
  | inr other ↦ inr (λ more e. (let first : b ≡ c = cc in other first))
]

-- a line break at the beginning, or how the first byte is read
data Beginning (b : ℕ) (rest : List ℕ) : Type 0 where
  breaks : (more : List ℕ) → BreaksLine (b ∷ rest) more → length more ≤ length rest → Beginning b rest
  reads : (c : ℕ) → IsReadAs b c → Beginning b rest

feed : (b : ℕ) (rest : List ℕ) → b ≡ 10 → Beginning b rest
feed b rest is = elim (begins-or-not 13 rest) [
  | inl back ↦
      let whole : b ∷ rest ≡ 10 ∷ 13 ∷ back.0 = let e = back.1 in cc in
      breaks back.0 (subst (λ t. BreaksLine t back.0) (sym whole) line_feed_carriage_return) (let e = ap length back.1 in omega (arith, e))
  | inr none ↦ breaks rest (subst (λ c. BreaksLine (c ∷ rest) rest) (sym is) (line_feed none)) (omega arith)
]

back : (b : ℕ) (rest : List ℕ) → b ≡ 13 → Beginning b rest
back b rest is = elim (begins-or-not 10 rest) [
  | inl next ↦
      let whole : b ∷ rest ≡ 13 ∷ 10 ∷ next.0 = let e = next.1 in cc in
      breaks next.0 (subst (λ t. BreaksLine t next.0) (sym whole) carriage_return_line_feed) (let e = ap length next.1 in omega (arith, e))
  | inr none ↦ breaks rest (subst (λ c. BreaksLine (c ∷ rest) rest) (sym is) (carriage_return none)) (omega arith)
]

beginning : (b : ℕ) (rest : List ℕ) → Beginning b rest
beginning b rest = elim (cases_eq b 10) [
  | inl is ↦ feed b rest is
  | inr no_feed ↦ elim (cases_eq b 13) [
    | inl is ↦ back b rest is
    | inr no_back ↦ elim (cases_lt 32 b) [
      | inl dark ↦ reads b (itself dark)
      | inr light ↦ reads 32 (white light no_feed no_back)
    ]
  ]
]

abbrev HasSimpleText : List ℕ → Type 0
HasSimpleText value = (text : List ℕ) × IsSimpleText value text

module _ (most : ℕ) (each : (value : List ℕ) → length value ≤ most → HasSimpleText value) where
  -- behind a backslash
  hidden : (value : List ℕ) → length value ≤ most → HasSimpleText (92 ∷ value)
  hidden [] short = ([], last_backslash)
  hidden (b ∷ rest) short = elim (beginning b rest) [
    | breaks more break less ↦ let next = each more (omega arith) in (next.0, hidden_break break next.1)
    | reads c as_c ↦ let next = each rest (omega arith) in (c ∷ next.0, hidden_byte as_c next.1)
  ]

  shown : (b : ℕ) (rest : List ℕ) → b ≢ 92 → length rest ≤ most → HasSimpleText (b ∷ rest)
  shown b rest other short = elim (beginning b rest) [
    | breaks more break less ↦ let next = each more (omega arith) in (32 ∷ next.0, line_break break next.1)
    | reads c as_c ↦ let next = each rest short in (c ∷ next.0, byte other as_c next.1)
  ]

  one-more : (b : ℕ) (rest : List ℕ) → length rest ≤ most → HasSimpleText (b ∷ rest)
  one-more b rest short = elim (cases_eq b 92) [
    | inl is ↦ subst (λ c. HasSimpleText (c ∷ rest)) (sym is) (hidden rest short)
    | inr other ↦ shown b rest other short
  ]

text-within : (most : ℕ) (value : List ℕ) → length value ≤ most → HasSimpleText value
text-within most [] short = ([], nothing)
text-within zero (b ∷ rest) short = absurd (omega arith)
text-within (suc most) (b ∷ rest) short = one-more most (text-within most) b rest (omega arith)

-- each value has its SimpleText
pub simple-there : (value : List ℕ) → (text : List ℕ) × IsSimpleText value text
simple-there value = text-within (length value) value (omega arith)

-- and each first value of a root, if there is one
pub text-there : (text : List ℕ) (found : Option Pair) → (simple : List ℕ) × IsTextOf text found simple
text-there text None = ([], IsTextOf.no_value)
text-there text (Some pair) = let simple = simple-there (bytes_of text pair.value) in (simple.0, IsTextOf.value simple.1)
