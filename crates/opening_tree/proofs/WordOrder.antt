-- The order of words, and of lists of words, by the digits of two bits from the highest on.
use Prim.Native.Nat.{zero}
use Rattle.std.proofs.Common.{◌≡◌, ℕ, suc, ◌+◌, ◌-◌, ◌*◌, ◌/◌, ◌%◌, ◌^◌, ◌<◌, ◌≤◌, inl, inr, cond, ltb, eqb, List, [], ◌∷◌, length, get_or, sym, ap, ◌∙◌, arith}
use Rattle.std.proofs.lemmas.Bool.{cases_Bool, cases_lt, eqb-true, ltb-true}
use Rattle.std.proofs.lemmas.Cmp.{nat_list_cmp_total}
use Rattle.std.proofs.lemmas.Map.Text.{is_eq-slice_cmp}
use Rattle.std.proofs.lemmas.Nat.{shr-shr, shr_below}
use Rattle.std.proofs.lemmas.Slice.Eq.{bytes_eq-Decides}
use Rattle.std.specs.Cmp.Lexicographic.{slice_cmp}
use Rattle.std.specs.Ordering.{is_eq, nat_cmp, ordering_reverse, ordering_then}
use Rattle.std.specs.declared.cmp.Ordering.TheVariants.{Less, Equal, Greater}
use Rattle.opening_tree.specs.Packing.{digit_in}

-- the digit with a number, from the highest on
abbrev pub digit : ℕ → ℕ → ℕ
digit n i = digit_in n (31 - i)

-- among some first digits there is one that is less, behind equal ones
pub record IsLessAmong (a b n : ℕ) : Type 0 where
  pub at : ℕ
  pub within : at < n
  pub same : (i : ℕ) → i < at → digit a i ≡ digit b i
  pub less : digit a at < digit b at

-- what stands before the last digits, of which so many are left
abbrev lead : ℕ → ℕ → ℕ
lead a n = a / 2 ^ (2 * (32 - n))

-- where the first digits together are equal, each is
same_lead : (a b n : ℕ) → n ≤ 32 → lead a n ≡ lead b n → (i : ℕ) → i < n → digit a i ≡ digit b i
same_lead a b n most e i lt =
    let x = 2 * (32 - n) in
    let k = 2 * (n - 1 - i) in
    let up : 2 * (31 - i) ≡ x + k = omega arith in
    let of_a : a / 2 ^ x / 2 ^ k ≡ a / 2 ^ (x + k) = shr-shr a x k in
    let of_b : b / 2 ^ x / 2 ^ k ≡ b / 2 ^ (x + k) = shr-shr b x k in
    ap (λ m. a / 2 ^ m % 4) up ∙ ap (λ m. m % 4) (sym of_a) ∙ ap (λ m. m / 2 ^ k % 4) e ∙ ap (λ m. m % 4) of_b ∙ ap (λ m. b / 2 ^ m % 4) (sym up)

-- what stands before one digit more
lead_more : (a n : ℕ) → n < 32 → lead a (suc n) / 4 ≡ lead a n
lead_more a n lt =
    let up : 2 * (32 - suc n) + 2 ≡ 2 * (32 - n) = omega arith in
    let e : a / 2 ^ (2 * (32 - suc n)) / 2 ^ 2 ≡ a / 2 ^ (2 * (32 - suc n) + 2) = shr-shr a (2 * (32 - suc n)) 2 in
    e ∙ ap (λ m. a / 2 ^ m) up

pub first_less : (a b n : ℕ) → b < 2 ^ 64 → n ≤ 32 → lead a n < lead b n → IsLessAmong a b n
first_less a b zero fits most lt =
    let none : b / 2 ^ 64 < 2 ^ 0 = shr_below b 0 64 fits in absurd (omega arith)
first_less a b (suc n) fits most lt =
    elim (cases_lt (lead a n) (lead b n)) [
      | inl less ↦
          let before = first_less a b n fits (omega arith) less in
          record { at = before.at; within = omega (arith, before.within); same = before.same; less = before.less }
      | inr le ↦
          let ea = lead_more a n (omega arith) in
          let eb = lead_more b n (omega arith) in
          let e : lead a n ≡ lead b n = omega (arith, ea, eb) in
          let here : 31 - n ≡ 32 - suc n = omega arith in
          let da : digit a n ≡ lead a (suc n) % 4 = ap (λ m. a / 2 ^ (2 * m) % 4) here in
          let db : digit b n ≡ lead b (suc n) % 4 = ap (λ m. b / 2 ^ (2 * m) % 4) here in
          record {
            at = n;
            within = omega arith;
            same = same_lead a b n (omega arith) e;
            less = omega (arith, ea, eb, e, da, db);
          }
    ]

-- a word that is less
pub word_less : (a b : ℕ) → b < 2 ^ 64 → a < b → IsLessAmong a b 32
word_less a b fits lt =
    first_less a b 32 fits (omega arith) (omega arith)

-- ---- lists of words

-- one list is less than another: at a place behind equal ones
pub record IsListLess (xs ys : List ℕ) : Type 0 where
  pub at : ℕ
  pub within : at < length ys
  pub same : (i : ℕ) → i < at → get_or xs i 0 ≡ get_or ys i 0
  pub less : get_or xs at 0 < get_or ys at 0

less_here : (x y : ℕ) (xs ys : List ℕ) → x < y → IsListLess (x ∷ xs) (y ∷ ys)
less_here x y xs ys lt = record { at = 0; within = omega arith; same = λ i below. absurd (omega (arith, below)); less = lt }

same_to : (x y : ℕ) (xs ys : List ℕ) → x ≡ y → (before : IsListLess xs ys) → (i : ℕ) → i < suc before.at → get_or (x ∷ xs) i 0 ≡ get_or (y ∷ ys) i 0
same_to x y xs ys here before zero lt = here
same_to x y xs ys here before (suc i) lt = before.same i (omega arith)

less_behind : (x y : ℕ) (xs ys : List ℕ) → x ≡ y → IsListLess xs ys → IsListLess (x ∷ xs) (y ∷ ys)
less_behind x y xs ys here before = record { at = suc before.at; within = omega (arith, before.within); same = same_to x y xs ys here before; less = before.less }

list_less : (xs ys : List ℕ) → length xs ≡ length ys → slice_cmp nat_cmp xs ys ≡ Less → IsListLess xs ys
list_less [] [] long e = absurd cc
list_less [] (y ∷ ys) long e = absurd (omega arith)
list_less (x ∷ xs) [] long e = absurd (omega arith)
list_less (x ∷ xs) (y ∷ ys) long e =
    elim (cases_Bool (ltb x y)) [
      | inl t ↦ less_here x y xs ys (ltb-true x y t)
      | inr f ↦ elim (cases_Bool (eqb x y)) [
        | inl t ↦
            let c : nat_cmp x y ≡ Equal = ap (λ b. cond b Less (cond (eqb x y) Equal Greater)) f ∙ ap (λ b. cond b Equal Greater) t in
            less_behind x y xs ys (eqb-true x y t) (list_less xs ys (omega (arith, long)) (sym (ap (λ o. ordering_then o (slice_cmp nat_cmp xs ys)) c) ∙ e))
        | inr g ↦
            let c : nat_cmp x y ≡ Greater = ap (λ b. cond b Less (cond (eqb x y) Equal Greater)) f ∙ ap (λ b. cond b Equal Greater) g in
            let bad : Greater ≡ Less = sym (ap (λ o. ordering_then o (slice_cmp nat_cmp xs ys)) c) ∙ e in
            absurd cc
      ]
    ]

pub lists_less : (xs ys : List ℕ) → length xs ≡ length ys → slice_cmp nat_cmp xs ys ≡ Less → IsListLess xs ys
lists_less = list_less

pub lists_equal : (xs ys : List ℕ) → slice_cmp nat_cmp xs ys ≡ Equal → xs ≡ ys
lists_equal xs ys e = (bytes_eq-Decides xs ys).0 (sym (is_eq-slice_cmp xs ys) ∙ ap is_eq e)

pub lists_greater : (xs ys : List ℕ) → slice_cmp nat_cmp xs ys ≡ Greater → slice_cmp nat_cmp ys xs ≡ Less
lists_greater xs ys e = nat_list_cmp_total.antisymm ys xs ∙ ap ordering_reverse e
