-- The first date of a text: that it is found, and that there is one only.
use Rattle.std.proofs.Common.{◌≡◌, ◌∙◌, ◌++◌, ◌<◌, ◌≤◌, ℕ, zero, suc, List, [], ◌∷◌, All, length, take, drop, slice_index, refl, sym, ap, subst, arith}
use Rattle.std.proofs.lemmas.List.{take-append-drop}
use Rattle.std.proofs.lemmas.List.Elements.{All-head, All-tail}
use Rattle.info_filter.specs.Day.{IsDateByte, IsFirstDate}

-- what stands at a place is the head of what is left from there
drop_head : (xs : List ℕ) (k b : ℕ) (more : List ℕ) → drop k xs ≡ b ∷ more → (k < length xs) × (slice_index xs k ≡ b)
drop_head [] zero b more e = absurd cc
drop_head [] (suc k) b more e = absurd cc
drop_head (x ∷ xs) zero b more e = let head : x ≡ b = cc in (omega arith, head)
drop_head (x ∷ xs) (suc k) b more e = let (within, is) = drop_head xs k b more e in (omega (arith, within), is)

pub first_there : (text shown : List ℕ) (end : ℕ) →
    (white : List ℕ) × (text ≡ white ++ shown) × All (λ (b : ℕ). b ≤ 32) white →
    ((b : ℕ) (more : List ℕ) → shown ≡ b ∷ more → 32 < b) →
    All IsDateByte (take end shown) →
    (end < length shown → ¬ IsDateByte (slice_index shown end)) →
    IsFirstDate text (take end shown)
first_there text shown end (white, is, skipped) first made longest = record {
  white = white;
  rest = drop end shown;
  parts = is ∙ ap (λ xs. white ++ xs) (sym (take-append-drop end shown));
  skipped = skipped;
  all_skipped = λ b more e. first b more (sym (take-append-drop end shown) ∙ e);
  made = made;
  longest = λ b more e byte. let (within, there) = drop_head shown end b more e in longest within (subst IsDateByte (sym there) byte);
}

-- a list is parted in one way only where the first element without a property stands
pub split_once : {X : Type 0} (P : X → Type 0) (xs ys rest more : List X) → All P xs → All P ys →
    ((b : X) (r : List X) → rest ≡ b ∷ r → ¬ P b) → ((b : X) (r : List X) → more ≡ b ∷ r → ¬ P b) →
    xs ++ rest ≡ ys ++ more → (xs ≡ ys) × (rest ≡ more)
split_once P [] [] rest more all all' none none' e = (refl, e)
split_once P [] (y ∷ ys) rest more all all' none none' e = absurd (none y (ys ++ more) e (All-head P y ys all'))
split_once P (x ∷ xs) [] rest more all all' none none' e = absurd (none' x (xs ++ rest) (sym e) (All-head P x xs all))
split_once P (x ∷ xs) (y ∷ ys) rest more all all' none none' e =
    let head : x ≡ y = cc in
    let tail : xs ++ rest ≡ ys ++ more = cc in
    let (fronts, backs) = split_once P xs ys rest more (All-tail P x xs all) (All-tail P y ys all') none none' tail in
    let whole : x ∷ xs ≡ y ∷ ys = cc (head, fronts) in
    (whole, backs)

pub first_once : (text one other : List ℕ) → IsFirstDate text one → IsFirstDate text other → one ≡ other
first_once text one other a b =
    let (_, shown) = split_once (λ (x : ℕ). x ≤ 32) a.white b.white (one ++ a.rest) (other ++ b.rest) a.skipped b.skipped
    (λ x r e low. let high : 32 < x = a.all_skipped x r e in omega (arith, high, low))
    (λ x r e low. let high : 32 < x = b.all_skipped x r e in omega (arith, high, low))
    (sym a.parts ∙ b.parts) in
    let (same, _) = split_once IsDateByte one other a.rest b.rest a.made b.made a.longest b.longest shown in
    same
