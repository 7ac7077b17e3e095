-- The order of lists of bytes: the least one is one only.
use Rattle.std.proofs.Common.{◌≡◌, ℕ, true, false, List, refl, sym, ◌∙◌, ap}
use Rattle.std.specs.Cmp.Lexicographic.{slice_cmp}
use Rattle.std.specs.Ordering.{nat_cmp, is_eq, is_gt, ordering_reverse}
use Rattle.std.specs.declared.cmp.Ordering.{Ordering}
use Rattle.std.specs.declared.cmp.Ordering.TheVariants.{Less, Equal, Greater}
use Rattle.std.proofs.lemmas.Bool.{false≢true}
use Rattle.std.proofs.lemmas.Cmp.{nat_list_cmp_total, tied_itself, upto}
use Rattle.std.proofs.lemmas.Slice.Eq.{bytes_eq-Decides}
use Rattle.std.proofs.lemmas.Map.Text.{is_eq-slice_cmp}
use Rattle.dyer_signature.specs.Images.{IsLess}

-- the first is at most the second
abbrev pub IsAtMost : List ℕ → List ℕ → Type 0
IsAtMost xs ys = is_gt (slice_cmp nat_cmp xs ys) ≡ false

reversed-lt : (o : Ordering) → ordering_reverse o ≡ Less → is_gt o ≡ true
reversed-lt Less e = absurd cc
reversed-lt Equal e = absurd cc
reversed-lt Greater e = refl

at_most : (o : Ordering) → ¬ (ordering_reverse o ≡ Less) → is_gt o ≡ false
at_most Less n = refl
at_most Equal n = refl
at_most Greater n = absurd (n refl)

-- one is at most another exactly where that isn't less
pub not_less : (xs ys : List ℕ) → IsAtMost xs ys → ¬ IsLess ys xs
not_less xs ys most less =
    let e : ordering_reverse (slice_cmp nat_cmp xs ys) ≡ Less = sym (nat_list_cmp_total.antisymm ys xs) ∙ less in
    false≢true (sym most ∙ reversed-lt (slice_cmp nat_cmp xs ys) e)

pub most_from_not_less : (xs ys : List ℕ) → ¬ IsLess ys xs → IsAtMost xs ys
most_from_not_less xs ys n =
    at_most (slice_cmp nat_cmp xs ys) (λ e. n (nat_list_cmp_total.antisymm ys xs ∙ e))

pub most-trans : (xs ys zs : List ℕ) → IsAtMost xs ys → IsAtMost ys zs → IsAtMost xs zs
most-trans = upto nat_list_cmp_total

pub most-itself : (xs : List ℕ) → IsAtMost xs xs
most-itself xs = ap is_gt (tied_itself nat_list_cmp_total xs)

-- of two lists that are at most each other there is one
pub same_least : (xs ys : List ℕ) → IsAtMost xs ys → IsAtMost ys xs → xs ≡ ys
same_least xs ys g h =
    let is = is_equal (slice_cmp nat_cmp xs ys) g (ap is_gt (sym (nat_list_cmp_total.antisymm ys xs)) ∙ h) in
    (bytes_eq-Decides xs ys).0 (sym (is_eq-slice_cmp xs ys) ∙ ap is_eq is)
  where
    is_equal : (o : Ordering) → is_gt o ≡ false → is_gt (ordering_reverse o) ≡ false → o ≡ Equal
    is_equal Less g h = absurd (false≢true (sym h))
    is_equal Equal g h = refl
    is_equal Greater g h = absurd (false≢true (sym g))
