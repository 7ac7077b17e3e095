-- What is listed of the elements of a list, each with its number.
use Rattle.std.proofs.Common.{◌≡◌, ◌∙◌, ◌+◌, ◌++◌, ◌<◌, ◌≤◌, ℕ, suc, Bool, true, false, cond, filter, List, [], ◌∷◌, Option, Some, None, append_assoc, length, length-append, refl, sym, ap, subst, slice_get, arith}
use Rattle.std.specs.List.{flat_map, range_with_len}
use Rattle.std.specs.Option.{option_map_or}
use Rattle.std.proofs.lemmas.Grind.{flat_map-append}
use Rattle.std.proofs.lemmas.List.{append-nil}

-- what f lists of each element, of which the first has the number n
abbrev pub numbered : {X A : Type 0} → (ℕ → X → List A) → ℕ → List X → List A
numbered f n [] = []
numbered f n (x ∷ xs) = f n x ++ numbered f (n + 1) xs

numbered-push : {X A : Type 0} (f : ℕ → X → List A) (n : ℕ) (xs : List X) (x : X) → numbered f n (xs ++ x ∷ []) ≡ numbered f n xs ++ f (n + length xs) x
numbered-push f n [] x = append-nil (f n x) ∙ ap (λ k. f k x) (omega arith)
numbered-push f n (y ∷ ys) x =
    let number : n + 1 + length ys ≡ n + suc (length ys) = omega arith in
    ap (λ rest. f n y ++ rest) (numbered-push f (n + 1) ys x ∙ ap (λ k. numbered f (n + 1) ys ++ f k x) number)
    ∙ sym (append_assoc (f n y) (numbered f (n + 1) ys) (f (n + suc (length ys)) x))

pub numbered-last : {X A : Type 0} (f : ℕ → X → List A) (xs : List X) (x : X) → numbered f 0 (xs ++ x ∷ []) ≡ numbered f 0 xs ++ f (length xs) x
numbered-last f xs x = let number : 0 + length xs ≡ length xs = omega arith in numbered-push f 0 xs x ∙ ap (λ k. numbered f 0 xs ++ f k x) number

pub numbered-same : {X A : Type 0} (f g : ℕ → X → List A) (n : ℕ) (xs : List X) → ((k : ℕ) (x : X) → n ≤ k → k < n + length xs → f k x ≡ g k x) → numbered f n xs ≡ numbered g n xs
numbered-same f g n [] same = refl
numbered-same f g n (x ∷ xs) same =
    let first = same n x (omega arith) (omega arith) in
    let rest = numbered-same f g (n + 1) xs (λ k y le lt. same k y (omega (arith, le)) (omega (arith, lt))) in
    λ i. first i ++ rest i

pub flat_map-numbered : {X A B : Type 0} (h : A → List B) (f : ℕ → X → List A) (n : ℕ) (xs : List X) → flat_map h (numbered f n xs) ≡ numbered (λ k x. flat_map h (f k x)) n xs
flat_map-numbered h f n [] = refl
flat_map-numbered h f n (x ∷ xs) =
    flat_map-append h (f n x) (numbered f (n + 1) xs) ∙ ap (λ rest. flat_map h (f n x) ++ rest) (flat_map-numbered h f (n + 1) xs)

get_seam : {X : Type 0} (before : List X) (x : X) (xs : List X) → slice_get (before ++ x ∷ xs) (length before) ≡ Some x
get_seam [] x xs = refl
get_seam (y ∷ ys) x xs = get_seam ys x xs

-- the same by the numbers of all elements
numbered-from : {X A : Type 0} (f : ℕ → X → List A) (before xs : List X) → flat_map (λ k. option_map_or (f k) (slice_get (before ++ xs) k) []) (range_with_len (length before) (length xs)) ≡ numbered f (length before) xs
numbered-from f before [] = refl
numbered-from {X} {A} f before (x ∷ xs) =
    let at : List X → ℕ → List A = λ all k. option_map_or (f k) (slice_get all k) [] in
    let here : at (before ++ x ∷ xs) (length before) ≡ f (length before) x = ap (λ (o : Option X). option_map_or (f (length before)) o []) (get_seam before x xs) in
    let longer : length (before ++ x ∷ []) ≡ length before + 1 = length-append before (x ∷ []) in
    let rest = subst (λ n. flat_map (at ((before ++ x ∷ []) ++ xs)) (range_with_len n (length xs)) ≡ numbered f n xs) longer (numbered-from f (before ++ x ∷ []) xs) in
    let moved = subst (λ (all : List X). flat_map (at all) (range_with_len (length before + 1) (length xs)) ≡ numbered f (length before + 1) xs) (append_assoc before (x ∷ []) xs) rest in
    λ i. here i ++ moved i

pub numbered-all : {X A : Type 0} (f : ℕ → X → List A) (xs : List X) → flat_map (λ k. option_map_or (f k) (slice_get xs k) []) (range_with_len 0 (length xs)) ≡ numbered f 0 xs
numbered-all f xs = numbered-from f [] xs

-- the numbers of the elements that pass
numbers-filtered : {X : Type 0} (test : X → Bool) (all : List X) (ns : List ℕ) → filter (λ k. option_map_or test (slice_get all k) false) ns ≡ flat_map (λ k. option_map_or (λ x. cond (test x) (k ∷ []) []) (slice_get all k) []) ns
numbers-filtered test all [] = refl
numbers-filtered {X} test all (n ∷ ns) =
    let rest = numbers-filtered test all ns in
    by (slice_get all n) ∙ ap (λ l. option_map_or (λ x. cond (test x) (n ∷ []) []) (slice_get all n) [] ++ l) rest
  where
    told : (b : Bool) (l : List ℕ) → cond b (n ∷ l) l ≡ cond b (n ∷ []) [] ++ l
    told true l = refl
    told false l = refl

    by : (o : Option X) → cond (option_map_or test o false) (n ∷ filter (λ k. option_map_or test (slice_get all k) false) ns) (filter (λ k. option_map_or test (slice_get all k) false) ns)
        ≡ option_map_or (λ x. cond (test x) (n ∷ []) []) o [] ++ filter (λ k. option_map_or test (slice_get all k) false) ns
    by None = refl
    by (Some x) = told (test x) (filter (λ k. option_map_or test (slice_get all k) false) ns)

pub numbers-numbered : {X : Type 0} (test : X → Bool) (xs : List X) → filter (λ k. option_map_or test (slice_get xs k) false) (range_with_len 0 (length xs)) ≡ numbered (λ k x. cond (test x) (k ∷ []) []) 0 xs
numbers-numbered test xs = numbers-filtered test xs (range_with_len 0 (length xs)) ∙ numbered-all (λ k x. cond (test x) (k ∷ []) []) xs
