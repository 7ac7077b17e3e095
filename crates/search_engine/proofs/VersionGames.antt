-- The items of parts, one part after another: how many they are, and the part of an item.
use Rattle.std.proofs.Common.{◌≡◌, ◌∙◌, ◌+◌, ◌-◌, ◌<◌, ◌≤◌, ◌++◌, ℕ, zero, suc, List, [], ◌∷◌, Some, None, arith, get_or, length, length-append, map, slice_get, ap, subst, take}
use Rattle.std.proofs.lemmas.List.{take_all}
use Rattle.std.proofs.lemmas.Option.{slice_get_past}
use Rattle.version_publisher.specs.Contents.{items_in}
use Rattle.segment_store.proofs.VersionGames.{part-more}

-- what stands in a list stands there in front of another too
get-within : {A : Type 0} (xs ys : List A) (n : ℕ) (x : A) → slice_get xs n ≡ Some x → slice_get (xs ++ ys) n ≡ Some x
get-within [] ys n x found = absurd cc
get-within (a ∷ xs) ys zero x found = found
get-within (a ∷ xs) ys (suc n) x found = get-within xs ys n x found

-- what stands behind a list
get-past : {A : Type 0} (xs ys : List A) (n : ℕ) → length xs ≤ n → slice_get (xs ++ ys) n ≡ slice_get ys (n - length xs)
get-past [] ys n low = let all : n ≡ n - 0 = omega arith in ap (slice_get ys) all
get-past (a ∷ xs) ys zero low = absurd (omega (arith, low))
get-past (a ∷ xs) ys (suc n) low = let less : n - length xs ≡ suc n - suc (length xs) = omega arith in get-past xs ys n (omega (arith, low)) ∙ ap (slice_get ys) less

module _ {X A : Type 0} (v : X → List A) where
  -- these are not more than those of all parts
  pub part-fits : (parts : List X) (k : ℕ) (part : X) → k < length parts → part ≡ get_or parts k part → length (items_in (map v (take k parts))) + length (v part) ≤ length (items_in (map v parts))
  part-fits [] k part below at = absurd (omega (arith, below))
  part-fits (p ∷ ps) zero part below at = omega (arith, ap length (ap v at), length-append (v p) (items_in (map v ps)))
  part-fits (p ∷ ps) (suc k) part below at =
      omega (arith, part-fits ps k part (omega (arith, below)) at, length-append (v p) (items_in (map v ps)), length-append (v p) (items_in (map v (take k ps))))

  -- what a part has at a place, all parts have behind the parts before it
  pub found-in-part : (parts : List X) (k : ℕ) (part : X) (n : ℕ) (x : A) → k < length parts → part ≡ get_or parts k part → length (items_in (map v (take k parts))) ≤ n
      → slice_get (v part) (n - length (items_in (map v (take k parts)))) ≡ Some x → slice_get (items_in (map v parts)) n ≡ Some x
  found-in-part [] k part n x below at low found = absurd (omega (arith, below))
  found-in-part (p ∷ ps) zero part n x below at low found = let all : n - 0 ≡ n = omega arith in get-within (v p) (items_in (map v ps)) n x (subst (λ q. slice_get (v q) n ≡ Some x) at (subst (λ j. slice_get (v part) j ≡ Some x) all found))
  found-in-part (p ∷ ps) (suc k) part n x below at low found =
      let before = items_in (map v (take k ps)) in
      let both = length-append (v p) before in
      let less : n - length (v p ++ before) ≡ n - length (v p) - length before = omega (arith, both, low) in
      get-past (v p) (items_in (map v ps)) n (omega (arith, both, low))
      ∙ found-in-part ps k part (n - length (v p)) x (omega (arith, below)) at (omega (arith, both, low)) (subst (λ j. slice_get (v part) j ≡ Some x) less found)

  -- how many items one part more has
  pub count-more : (parts : List X) (k : ℕ) (part : X) (count more : ℕ) → k < length parts → part ≡ get_or parts k part → count ≡ length (items_in (map v (take k parts))) → more ≡ length (v part)
      → count + more ≡ length (items_in (map v (take (k + 1) parts)))
  count-more parts k part count more below at so_far is =
      omega (arith, so_far, is, ap length (part-more v parts k part below at), length-append (items_in (map v (take k parts))) (v part))

  -- so many are those of all parts
  pub counted : (parts : List X) (all : List (List A)) (k count : ℕ) → length parts ≤ k → map v parts ≡ all → count ≡ length (items_in (map v (take k parts))) → count ≡ length (items_in all)
  counted parts all k count past is so_far = so_far ∙ ap (λ ps. length (items_in (map v ps))) (take_all k parts past) ∙ ap (λ ls. length (items_in ls)) is

  -- there is no item behind all parts
  pub none-behind : (parts : List X) (all : List (List A)) (k count n : ℕ) → length parts ≤ k → map v parts ≡ all → count ≡ length (items_in (map v (take k parts))) → count ≤ n → slice_get (items_in all) n ≡ None
  none-behind parts all k count n past is so_far low =
      slice_get_past (items_in all) n (omega (arith, counted parts all k count past is so_far, low))
