-- Bytes between quotes: a text has them in one way only.
use Rattle.std.proofs.Common.{◌≡◌, ◌≢◌, ◌⊎◌, ◌++◌, ◌∙◌, ℕ, List, [], ◌∷◌, refl, sym, ap, inl, inr, append_assoc, arith}
use Rattle.std.proofs.lemmas.Bool.{cases_eq, eq-eqb, ne_eqb}
use Rattle.query_script.specs.Words.{escaped, escaped_byte}

-- how a byte stands between quotes
pub escaped_byte-cases : (c : ℕ) → ((escaped_byte c ≡ 92 ∷ c ∷ []) × ((c ≡ 34) ⊎ (c ≡ 92))) ⊎ ((escaped_byte c ≡ c ∷ []) × (c ≢ 34) × (c ≢ 92))
escaped_byte-cases c = elim (cases_eq c 34) [
  | inl quote ↦ inl (rw (eq-eqb c 34 quote) refl, inl quote)
  | inr no_quote ↦ elim (cases_eq c 92) [
    | inl slash ↦ inl (rw (ne_eqb c 34 no_quote, eq-eqb c 92 slash) refl, inr slash)
    | inr no_slash ↦ inr (rw (ne_eqb c 34 no_quote, ne_eqb c 92 no_slash) refl, no_quote, no_slash)
  ]
]

-- a text begins with one byte only
escaped_byte-once : (a b : ℕ) (x y : List ℕ) → escaped_byte a ++ x ≡ escaped_byte b ++ y → (a ≡ b) × (x ≡ y)
escaped_byte-once a b x y e = elim (escaped_byte-cases a) [
  | inl (p, special) ↦ elim (escaped_byte-cases b) [
    | inl (q, _) ↦
        let whole : 92 ∷ a ∷ x ≡ 92 ∷ b ∷ y = sym (ap (λ l. l ++ x) p) ∙ e ∙ ap (λ l. l ++ y) q in
        let first : a ≡ b = cc in
        let rest : x ≡ y = cc in
        (first, rest)
    | inr (q, _, plain) ↦
        let whole : 92 ∷ a ∷ x ≡ b ∷ y = sym (ap (λ l. l ++ x) p) ∙ e ∙ ap (λ l. l ++ y) q in
        let first : b ≡ 92 = cc in
        absurd (plain first)
  ]
  | inr (p, _, plain) ↦ elim (escaped_byte-cases b) [
    | inl (q, _) ↦
        let whole : a ∷ x ≡ 92 ∷ b ∷ y = sym (ap (λ l. l ++ x) p) ∙ e ∙ ap (λ l. l ++ y) q in
        let first : a ≡ 92 = cc in
        absurd (plain first)
    | inr (q, _, _) ↦
        let whole : a ∷ x ≡ b ∷ y = sym (ap (λ l. l ++ x) p) ∙ e ∙ ap (λ l. l ++ y) q in
        let first : a ≡ b = cc in
        let rest : x ≡ y = cc in
        (first, rest)
  ]
]

-- no byte begins with the quote that ends a word
escaped_byte-no_quote : (a : ℕ) (x y : List ℕ) → escaped_byte a ++ x ≢ 34 ∷ y
escaped_byte-no_quote a x y e = elim (escaped_byte-cases a) [
  | inl (p, _) ↦ two_firsts 92 34 (a ∷ x) y (sym (ap (λ l. l ++ x) p) ∙ e) (λ same. omega (arith, same))
  | inr (p, plain, _) ↦ two_firsts a 34 x y (sym (ap (λ l. l ++ x) p) ∙ e) plain
]
  where
    two_firsts : (a b : ℕ) (x y : List ℕ) → a ∷ x ≡ b ∷ y → a ≢ b → ⊥
    two_firsts a b x y e other = let first : a ≡ b = cc in other first

-- what stands behind the bytes that were read
escaped-rest : (done bytes rest behind : List ℕ) → escaped done ++ rest ≡ escaped bytes ++ 34 ∷ behind → (more : List ℕ) × (rest ≡ escaped more ++ 34 ∷ behind)
escaped-rest [] bytes rest behind e = (bytes, e)
escaped-rest (d ∷ done) [] rest behind e = absurd (escaped_byte-no_quote d (escaped done ++ rest) behind (sym (append_assoc (escaped_byte d) (escaped done) rest) ∙ e))
escaped-rest (d ∷ done) (b ∷ bytes) rest behind e =
    let both = sym (append_assoc (escaped_byte d) (escaped done) rest) ∙ e ∙ append_assoc (escaped_byte b) (escaped bytes) (34 ∷ behind) in
    escaped-rest done bytes rest behind (escaped_byte-once d b (escaped done ++ rest) (escaped bytes ++ 34 ∷ behind) both).1

-- a text has one end of its quoted bytes
pub escaped-once : (a b x y : List ℕ) → escaped a ++ 34 ∷ x ≡ escaped b ++ 34 ∷ y → (a ≡ b) × (x ≡ y)
escaped-once [] [] x y e = let rest : x ≡ y = cc in (refl, rest)
escaped-once [] (c ∷ b) x y e = absurd (escaped_byte-no_quote c (escaped b ++ 34 ∷ y) x (sym (append_assoc (escaped_byte c) (escaped b) (34 ∷ y)) ∙ sym e))
escaped-once (c ∷ a) [] x y e = absurd (escaped_byte-no_quote c (escaped a ++ 34 ∷ x) y (sym (append_assoc (escaped_byte c) (escaped a) (34 ∷ x)) ∙ e))
escaped-once (c ∷ a) (d ∷ b) x y e =
    let both = sym (append_assoc (escaped_byte c) (escaped a) (34 ∷ x)) ∙ e ∙ append_assoc (escaped_byte d) (escaped b) (34 ∷ y) in
    let (first, others) = escaped_byte-once c d (escaped a ++ 34 ∷ x) (escaped b ++ 34 ∷ y) both in
    let (rest, behind) = escaped-once a b x y others in
    let whole : c ∷ a ≡ d ∷ b = cc (first, rest) in
    (whole, behind)

-- no quote ends the bytes
pub not_quoted : (text done rest : List ℕ) → text ≡ escaped done ++ rest → ((b : ℕ) (behind : List ℕ) → rest ≢ escaped_byte b ++ behind) → ((behind : List ℕ) → rest ≢ 34 ∷ behind) → (bytes behind : List ℕ) → text ≢ escaped bytes ++ 34 ∷ behind
not_quoted text done rest is no_byte no_quote bytes behind e = go (escaped-rest done bytes rest behind (sym is ∙ e))
  where
    go : (more : List ℕ) × (rest ≡ escaped more ++ 34 ∷ behind) → ⊥
    go ([], end) = no_quote behind end
    go (c ∷ more, end) = no_byte c (escaped more ++ 34 ∷ behind) (end ∙ append_assoc (escaped_byte c) (escaped more) (34 ∷ behind))
