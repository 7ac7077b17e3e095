-- The words `--name` and `--name=value`, as the library that reads the command line takes them apart.
use Rattle.std.proofs.Common.{◌≡◌, ◌∙◌, ◌+◌, ℕ, suc, Bool, true, false, cond, List, [], ◌∷◌, ◌++◌, take, drop, Option, Some, None, refl, sym, ap, ap₂, arith, true≢false}
use Rattle.std.specs.Prelude.{◌==◌, is_some}
use Rattle.std.specs.List.{after_first, before_first, position_or_len}
use Rattle.std.proofs.lemmas.Bool.{eqb-true}
use Rattle.clap.specs.Lexer.{has_byte, long_of, long_of_rest, name_and_value}

-- what stands behind `--`
abbrev pub behind_hyphens : List ℕ → Option (List ℕ) → List ℕ
behind_hyphens name None = name
behind_hyphens name (Some value) = name ++ 61 ∷ value

no_name : {X : Type 0} {x : X} → None ≡ Some x → ⊥
no_name e = true≢false (sym (ap is_some e))

abbrev told : Option (List ℕ × Option (List ℕ)) → List ℕ
told None = []
told (Some p) = behind_hyphens p.0 p.1

split : (text : List ℕ) → behind_hyphens (name_and_value text).0 (name_and_value text).1 ≡ text
split [] = refl
split (x ∷ rest) = by (x == 61) refl (split rest)
  where
    more : (found : Bool) → behind_hyphens (before_first (λ b. b == 61) rest) (cond found (Some (after_first (λ b. b == 61) rest)) None) ≡ rest
        → behind_hyphens (x ∷ before_first (λ b. b == 61) rest) (cond found (Some (after_first (λ b. b == 61) rest)) None) ≡ x ∷ rest
    more true e = ap (λ (l : List ℕ). x ∷ l) e
    more false e = ap (λ (l : List ℕ). x ∷ l) e

    by : (b : Bool) → (x == 61) ≡ b → behind_hyphens (name_and_value rest).0 (name_and_value rest).1 ≡ rest
        → behind_hyphens (name_and_value (x ∷ rest)).0 (name_and_value (x ∷ rest)).1 ≡ x ∷ rest
    by true e before = rw e (ap (λ (y : ℕ). y ∷ rest) (sym (eqb-true x 61 e)))
    by false e before =
        let n = position_or_len (λ b. b == 61) rest in
        let one : 1 + n ≡ suc n = omega arith in
        let two : 1 + n + 1 ≡ suc (n + 1) = omega arith in
        rw e (ap₂ (λ (front behind : List ℕ). behind_hyphens front (cond (has_byte 61 rest) (Some behind) None)) (ap (λ k. take k (x ∷ rest)) one) (ap (λ k. drop k (x ∷ rest)) two)
        ∙ more (has_byte 61 rest) before)

-- the word that the library reads as this name with this value
pub long_is : (word name : List ℕ) (value : Option (List ℕ)) → long_of word ≡ Some (name, value) → word ≡ 45 ∷ 45 ∷ behind_hyphens name value
long_is [] name value e = absurd (no_name e)
long_is (a ∷ []) name value e = by (a == 45) refl
  where
    by : (b : Bool) → (a == 45) ≡ b → a ∷ [] ≡ 45 ∷ 45 ∷ behind_hyphens name value
    by true is = absurd (no_name (rw is at e))
    by false is = absurd (no_name (rw is at e))
long_is (a ∷ b ∷ rest) name value e = by (a == 45) refl (b == 45) refl rest e
  where
    named : (others : List ℕ) → long_of_rest others ≡ Some (name, value) → others ≡ behind_hyphens name value
    named [] f = absurd (no_name f)
    named (x ∷ xs) f = sym (split (x ∷ xs)) ∙ ap told f

    by : (p : Bool) → (a == 45) ≡ p → (q : Bool) → (b == 45) ≡ q → (others : List ℕ) → long_of (a ∷ b ∷ others) ≡ Some (name, value)
        → a ∷ b ∷ others ≡ 45 ∷ 45 ∷ behind_hyphens name value
    by false first q second others f = absurd (no_name (rw first at f))
    by true first false second others f = absurd (no_name (rw (first, second) at f))
    by true first true second others f =
        ap₂ (λ x (xs : List ℕ). x ∷ xs) (eqb-true a 45 first) (ap₂ (λ x (xs : List ℕ). x ∷ xs) (eqb-true b 45 second) (named others (rw (first, second) at f)))
