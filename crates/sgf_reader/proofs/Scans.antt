-- The scan over two texts, one behind the other.
use Rattle.std.proofs.Common.{◌≡◌, ℕ, ◌+◌, ◌∙◌, ap, sym, subst, refl, arith, add-zero, List, [], ◌∷◌, ◌++◌, length, Some, None, Option, option_and_then}
use Rattle.sgf_reader.specs.Scan.{Scan, scan, step}

append_more : (at : ℕ) (x : ℕ) (xs ys : List ℕ) → ((t : Scan) → scan t (at + 1) (xs ++ ys) ≡ option_and_then (λ u. scan u (at + 1 + length xs) ys) (scan t (at + 1) xs)) → (o : Option Scan) → option_and_then (λ t. scan t (at + 1) (xs ++ ys)) o ≡ option_and_then (λ u. scan u (at + length (x ∷ xs)) ys) (option_and_then (λ t. scan t (at + 1) xs) o)
append_more at x xs ys ih None = refl
append_more at x xs ys ih (Some t) =
    let same : at + 1 + length xs ≡ at + length (x ∷ xs) = omega arith in
    ih t ∙ ap (λ (k : ℕ). option_and_then (λ u. scan u k ys) (scan t (at + 1) xs)) same

-- a scan over two texts is one over the first, and then one from there over the second
pub scan-append : (s : Scan) (at : ℕ) (xs ys : List ℕ) → scan s at (xs ++ ys) ≡ option_and_then (λ t. scan t (at + length xs) ys) (scan s at xs)
scan-append s at [] ys = sym (ap (λ (k : ℕ). scan s k ys) (add-zero at))
scan-append s at (x ∷ xs) ys = append_more at x xs ys (λ t. scan-append t (at + 1) xs ys) (step s.games s.place at x)

-- the text, which begins at this offset, leads one reader to another
pub record Leads (s : Scan) (at : ℕ) (text : List ℕ) (t : Scan) : Type 0 where
  pub scans : scan s at text ≡ Some t

pub Leads-none : {s : Scan} {at : ℕ} → Leads s at [] s
Leads-none = record { scans = refl }

pub Leads-byte : {s t u : Scan} {at b : ℕ} {bytes : List ℕ} → step s.games s.place at b ≡ Some t → Leads t (at + 1) bytes u → Leads s at (b ∷ bytes) u
Leads-byte {at = at} {bytes = bytes} e h = record { scans = ap (λ (o : Option Scan). option_and_then (λ t. scan t (at + 1) bytes) o) e ∙ h.scans }

pub Leads-one : {s t : Scan} {at b : ℕ} → step s.games s.place at b ≡ Some t → Leads s at (b ∷ []) t
Leads-one e = Leads-byte e Leads-none

pub Leads-then : {s t u : Scan} {at k : ℕ} {xs ys : List ℕ} → at + length xs ≡ k → Leads s at xs t → Leads t k ys u → Leads s at (xs ++ ys) u
Leads-then {s = s} {t = t} {at = at} {xs = xs} {ys = ys} e h g = record {
  scans =
      scan-append s at xs ys
      ∙ ap (λ (o : Option Scan). option_and_then (λ t. scan t (at + length xs) ys) o) h.scans
      ∙ ap (λ (j : ℕ). scan t j ys) e
      ∙ g.scans;
}

pub Leads-from : {s t : Scan} {at k : ℕ} {xs : List ℕ} → at ≡ k → Leads s at xs t → Leads s k xs t
Leads-from {s = s} {t = t} {xs = xs} e h = subst (λ (j : ℕ). Leads s j xs t) e h

pub Leads-to : {s t u : Scan} {at : ℕ} {xs : List ℕ} → t ≡ u → Leads s at xs t → Leads s at xs u
Leads-to {s = s} {at = at} {xs = xs} e h = subst (λ (v : Scan). Leads s at xs v) e h

first_some : (o : Option Scan) (f : Scan → Option Scan) (u : Scan) → option_and_then f o ≡ Some u → (t : Scan) × (o ≡ Some t) × (f t ≡ Some u)
first_some None f u e = absurd (cc)
first_some (Some t) f u e = (t, refl, e)

-- a text that leads on does so by each of its beginnings
pub Leads-parts : (s u : Scan) (at : ℕ) (xs ys : List ℕ) → scan s at (xs ++ ys) ≡ Some u → (t : Scan) × (scan s at xs ≡ Some t) × (scan t (at + length xs) ys ≡ Some u)
Leads-parts s u at xs ys h = first_some (scan s at xs) (λ t. scan t (at + length xs) ys) u (sym (scan-append s at xs ys) ∙ h)

pub Leads-head : (s u : Scan) (at b : ℕ) (bytes : List ℕ) → scan s at (b ∷ bytes) ≡ Some u → (t : Scan) × (step s.games s.place at b ≡ Some t) × (scan t (at + 1) bytes ≡ Some u)
Leads-head s u at b bytes h = first_some (step s.games s.place at b) (λ t. scan t (at + 1) bytes) u h
