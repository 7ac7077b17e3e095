-- What hits add to the numbers of a box: nothing where there are none, in turns what all of them add, and one of them
-- raises one number.
use Rattle.std.proofs.Common.{◌≡◌, ℕ, ◌+◌, ◌<◌, Bool, true, false, cond, nat_eq, List, [], ◌∷◌, ◌++◌, length, get_or, set, refl, sym, ap, ◌∙◌, zero-add, subst, arith, slice_set, slice_index_or}
use Rattle.std.proofs.lemmas.List.{get_or-set_same, get_or-set_other, length-set, same_lists, get_or_default}
use Rattle.std.proofs.lemmas.Bool.{eqb-false, eqb-true}
use Rattle.std.proofs.lemmas.List.FromFn.{length-map-range_with_len, get_or-map-range_with_len}
use Rattle.std.proofs.lemmas.List.Sums.{sum_by-append}
use Rattle.pattern_images.specs.declared.hit.Hit.{Hit}
use Rattle.hit_collectors.specs.declared.kind.Kind.{Kind}
use Rattle.hit_collectors.specs.declared.kind.Kind.TheVariants as kinds
use Rattle.hit_collectors.specs.Tallies.{BoxTally, count_at, counted_by, numbers_with, raised, with_hits}

-- ---- one number

pub raised_none : (n : ℕ) → raised n 0 ≡ n
raised_none n = omega arith

pub raised_twice : (n a b : ℕ) → raised (raised n a) b ≡ raised n (a + b)
raised_twice n a b = omega arith

pub count_more : (kind : Kind) (first second : List Hit) (k : ℕ) → count_at kind (first ++ second) k ≡ count_at kind first k + count_at kind second k
count_more kind first second k = sum_by-append (λ (hit : Hit). cond (nat_eq (counted_by kind hit) k) 1 0) first second

-- ---- all numbers

module _ (kind : Kind) (hits : List Hit) (numbers : List ℕ) where
  pub numbers_length : length (numbers_with kind hits numbers) ≡ length numbers
  numbers_length = length-map-range_with_len (λ k. raised (get_or numbers k 0) (count_at kind hits k)) 0 (length numbers)

  pub number_at : (k d : ℕ) → k < length numbers → get_or (numbers_with kind hits numbers) k d ≡ raised (get_or numbers k 0) (count_at kind hits k)
  number_at k d below = get_or-map-range_with_len (λ k. raised (get_or numbers k 0) (count_at kind hits k)) 0 (length numbers) k k d below (omega arith)

  -- numbers that are each raised by the hits that they count are the numbers with these hits
  pub same_numbers : (new : List ℕ) → length new ≡ length numbers →
      ((k d : ℕ) → k < length numbers → get_or new k d ≡ raised (get_or numbers k 0) (count_at kind hits k)) →
      numbers_with kind hits numbers ≡ new
  same_numbers new same each =
      same_lists (numbers_with kind hits numbers) new (numbers_length ∙ sym same)
      (λ k d below. let within : k < length numbers = subst (λ n. k < n) numbers_length below in
      number_at k d within ∙ sym (each k d within))

pub numbers_none : (kind : Kind) (numbers : List ℕ) → numbers_with kind [] numbers ≡ numbers
numbers_none kind numbers = same_numbers kind [] numbers numbers refl (λ k d below. get_or_default numbers k d 0 below ∙ sym (raised_none (get_or numbers k 0)))

pub numbers_more : (kind : Kind) (numbers : List ℕ) (first second : List Hit) → numbers_with kind second (numbers_with kind first numbers) ≡ numbers_with kind (first ++ second) numbers
numbers_more kind numbers first second =
    sym (same_numbers kind (first ++ second) numbers (numbers_with kind second (numbers_with kind first numbers))
    (numbers_length kind second (numbers_with kind first numbers) ∙ numbers_length kind first numbers)
    (λ k d below.
    number_at kind second (numbers_with kind first numbers) k d (subst (λ n. k < n) (sym (numbers_length kind first numbers)) below)
    ∙ ap (λ n. raised n (count_at kind second k)) (number_at kind first numbers k 0 below)
    ∙ raised_twice (get_or numbers k 0) (count_at kind first k) (count_at kind second k)
    ∙ ap (raised (get_or numbers k 0)) (sym (count_more kind first second k))))

-- ---- one hit

count_one : (kind : Kind) (hit : Hit) (k : ℕ) → count_at kind (hit ∷ []) k ≡ cond {A = ℕ} (nat_eq (counted_by kind hit) k) 1 0
count_one kind hit k = zero-add (cond {A = ℕ} (nat_eq (counted_by kind hit) k) 1 0)

-- the number i, and no other, is set to one more
module _ (numbers : List ℕ) (i k d : ℕ) (below : k < length numbers) where
  one_up : i ≡ k → get_or (set numbers i (raised (get_or numbers i 0) 1)) k d ≡ raised (get_or numbers k 0) 1
  one_up same =
      subst (λ j. get_or (set numbers j (raised (get_or numbers j 0) 1)) k d ≡ raised (get_or numbers k 0) 1) (sym same)
      (get_or-set_same numbers k (raised (get_or numbers k 0) 1) d below)

  as_it_was : (i ≡ k → ⊥) → get_or (set numbers i (raised (get_or numbers i 0) 1)) k d ≡ raised (get_or numbers k 0) 0
  as_it_was other =
      get_or-set_other numbers i k (raised (get_or numbers i 0) 1) d (λ same. other (sym same))
      ∙ get_or_default numbers k d 0 below
      ∙ sym (raised_none (get_or numbers k 0))

  set_up : (b : Bool) → nat_eq i k ≡ b → get_or (set numbers i (raised (get_or numbers i 0) 1)) k d ≡ raised (get_or numbers k 0) (cond {A = ℕ} b 1 0)
  set_up true is = one_up (eqb-true i k is)
  set_up false is = as_it_was (eqb-false i k is)

pub numbers_one : (kind : Kind) (hit : Hit) (numbers : List ℕ) →
    numbers_with kind (hit ∷ []) numbers ≡ slice_set numbers (counted_by kind hit) (raised (slice_index_or numbers (counted_by kind hit) 0) 1)
numbers_one kind hit numbers =
    same_numbers kind (hit ∷ []) numbers (set numbers (counted_by kind hit) (raised (get_or numbers (counted_by kind hit) 0) 1))
    (length-set numbers (counted_by kind hit) (raised (get_or numbers (counted_by kind hit) 0) 1))
    (λ k d below. set_up numbers (counted_by kind hit) k d below (nat_eq (counted_by kind hit) k) refl
    ∙ ap (raised (get_or numbers k 0)) (sym (count_one kind hit k)))

pub total_one : (hit : Hit) (n : ℕ) → numbers_with kinds.Total (hit ∷ []) (n ∷ []) ≡ raised n 1 ∷ []
total_one hit n = numbers_one kinds.Total hit (n ∷ [])

-- ---- boxes

pub told_none : (told : BoxTally) → with_hits [] told ≡ told
told_none told = ap (λ (numbers : List ℕ). record { name = told.name; kind = told.kind; numbers = numbers }) (numbers_none told.kind told.numbers)

pub told_more : (told : BoxTally) (first second : List Hit) → with_hits second (with_hits first told) ≡ with_hits (first ++ second) told
told_more told first second = ap (λ (numbers : List ℕ). record { name = told.name; kind = told.kind; numbers = numbers }) (numbers_more told.kind told.numbers first second)
