-- The items of parts that are copied, appended or merged.
use Rattle.std.proofs.Common.{get_or, ◌≡◌, ◌||◌, Bool, true, false, ℕ, zero, suc, List, [], ◌∷◌, ◌++◌, map, set, take, length, length-append, ◌+◌, ◌-◌, ◌<◌, ◌≤◌, ap, refl, sym, ◌∙◌, arith, append_assoc}
use Rattle.std.specs.List.{AllZip, AppendsClones}
use Rattle.std.proofs.lemmas.List.{map-append}
use Rattle.version_publisher.specs.Contents.{items_in, merged_last, last_two_joined, is_nonempty}

pub map_clones : {X B C : Type 0} (v : X → B) (f : B → C) (xs ys : List X) → AllZip (λ x y. v y ≡ v x) xs ys → map (λ a. f (v a)) ys ≡ map (λ a. f (v a)) xs
map_clones v f [] [] z = refl
map_clones v f [] (y ∷ ys) z = absurd z
map_clones v f (x ∷ xs) [] z = absurd z
map_clones v f (x ∷ xs) (y ∷ ys) z = λ i. f (z.0 i) ∷ map_clones v f xs ys z.1 i

-- a list that clones were appended to has the items of both
pub map_appended_clones : {X B C : Type 0} (v : X → B) (f : B → C) (old new more given : List X) → AppendsClones (λ x y. v y ≡ v x) old new more → more ≡ given
    → map (λ a. f (v a)) new ≡ map (λ a. f (v a)) old ++ map (λ a. f (v a)) given
map_appended_clones v f old new more given t e = ap (map (λ a. f (v a))) t.1 ∙ (map-append (λ a. f (v a)) old t.0 ∙ ap (λ ys. map (λ a. f (v a)) old ++ ys) (map_clones v f more t.0 t.2 ∙ ap (map (λ a. f (v a))) e))

-- the last two gone, with one in their place
pub set_merges_last : {X : Type 0} (xs : List X) (v : X) (k : ℕ) → length xs ≡ suc (suc k) → set (take (suc k) xs) k v ≡ merged_last xs v
set_merges_last [] v k e = absurd (omega arith)
set_merges_last (a ∷ []) v k e = absurd (omega arith)
set_merges_last (a ∷ b ∷ []) v zero e = refl
set_merges_last (a ∷ b ∷ []) v (suc k) e = absurd (omega arith)
set_merges_last (a ∷ b ∷ c ∷ xs) v zero e = absurd (omega arith)
set_merges_last (a ∷ b ∷ c ∷ xs) v (suc k) e = ap (λ zs. a ∷ zs) (set_merges_last (b ∷ c ∷ xs) v k (omega arith))

pub merged_last_few : {X : Type 0} (xs : List X) (v : X) → length xs < 2 → merged_last xs v ≡ xs
merged_last_few [] v h = refl
merged_last_few (a ∷ []) v h = refl
merged_last_few (a ∷ b ∷ xs) v h = absurd (omega arith)

pub map-merged_last : {X B : Type 0} (f : X → B) (xs : List X) (v : X) → map f (merged_last xs v) ≡ merged_last (map f xs) (f v)
map-merged_last f [] v = refl
map-merged_last f (a ∷ []) v = refl
map-merged_last f (a ∷ b ∷ []) v = refl
map-merged_last f (a ∷ b ∷ c ∷ xs) v = ap (λ zs. f a ∷ zs) (map-merged_last f (b ∷ c ∷ xs) v)

-- the same by what the owners own
pub map_map : {X Y B : Type 0} (v : X → Y) (f : Y → B) (xs : List X) → map (λ a. f (v a)) xs ≡ map f (map v xs)
map_map v f [] = refl
map_map v f (x ∷ xs) = ap (λ zs. f (v x) ∷ zs) (map_map v f xs)

pub map_merged_last : {X Y B : Type 0} (v : X → Y) (f : Y → B) (xs ys : List X) (y : Y) → map v ys ≡ merged_last (map v xs) y → map (λ a. f (v a)) ys ≡ merged_last (map (λ a. f (v a)) xs) (f y)
map_merged_last v f xs ys y e = map_map v f ys ∙ (ap (map f) e ∙ (map-merged_last f (map v xs) y ∙ ap (λ zs. merged_last zs (f y)) (sym (map_map v f xs))))

pub joined-merged_last : {A : Type 0} (xs : List (List A)) (x : List A) → x ≡ last_two_joined xs → items_in (merged_last xs x) ≡ items_in xs
joined-merged_last [] x e = refl
joined-merged_last (a ∷ []) x e = refl
joined-merged_last (a ∷ b ∷ []) x e = ap (λ z. z ++ []) e ∙ append_assoc a b []
joined-merged_last (a ∷ b ∷ c ∷ xs) x e = ap (λ z. a ++ z) (joined-merged_last (b ∷ c ∷ xs) x e)

pub set_merges_last_two : {X : Type 0} (xs : List X) (v : X) (n : ℕ) → length xs ≡ n → 2 ≤ n → set (take (n - 1) xs) (n - 2) v ≡ merged_last xs v
set_merges_last_two xs v zero e h = absurd (omega arith)
set_merges_last_two xs v (suc zero) e h = absurd (omega arith)
set_merges_last_two xs v (suc (suc k)) e h =
    let p : suc (suc k) - 1 ≡ suc k = omega arith in
    let q : suc (suc k) - 2 ≡ k = omega arith in (λ i. set (take (p i) xs) (q i) v) ∙ set_merges_last xs v k e

pub both_empty : {X Y : Type 0} (xs : List X) (ys : List Y) → (is_nonempty xs || is_nonempty ys) ≡ false → (xs ≡ []) × (ys ≡ [])
both_empty [] [] e = (refl, refl)
both_empty [] (y ∷ ys) e = absurd cc
both_empty (x ∷ xs) ys e = absurd cc

pub is_nonempty-append : {X : Type 0} (xs : List X) (x : X) → is_nonempty (xs ++ x ∷ []) ≡ true
is_nonempty-append [] x = refl
is_nonempty-append (y ∷ xs) x = refl

pub or-true : (b : Bool) → (b || true) ≡ true
or-true true = refl
or-true false = refl

pub is_nonempty-length : {X : Type 0} (xs : List X) → 0 < length xs → is_nonempty xs ≡ true
is_nonempty-length [] h = absurd (omega arith)
is_nonempty-length (x ∷ xs) h = refl

-- a change is queued in the place of what waited
pub pending_queued : {X Y : Type 0} (queued queued' : List X) (waiting waiting' : List Y) (change : X) → queued' ≡ queued ++ change ∷ [] → waiting' ≡ [] → 0 < length waiting
    → (is_nonempty queued' || is_nonempty waiting') ≡ (is_nonempty queued || is_nonempty waiting)
pending_queued queued queued' waiting waiting' change e none some =
    let now : (is_nonempty queued' || is_nonempty waiting') ≡ true = (λ i. is_nonempty (e i) || is_nonempty (none i)) ∙ ap (λ b. b || false) (is_nonempty-append queued change) in
    let before : (is_nonempty queued || is_nonempty waiting) ≡ true = ap (λ b. is_nonempty queued || b) (is_nonempty-length waiting some) ∙ or-true (is_nonempty queued) in
    now ∙ sym before

-- the last two elements of a list, and their items
pub last_two_at : {X A : Type 0} (f : X → List A) (xs : List X) (a b : X) (k : ℕ) → length xs ≡ suc (suc k) → a ≡ get_or xs k a → b ≡ get_or xs (suc k) b → last_two_joined (map f xs) ≡ f a ++ f b
last_two_at f [] a b k e p q = absurd (omega arith)
last_two_at f (x ∷ []) a b k e p q = absurd (omega arith)
last_two_at f (x ∷ y ∷ []) a b zero e p q = λ i. f (sym p i) ++ f (sym q i)
last_two_at f (x ∷ y ∷ []) a b (suc k) e p q = absurd (omega arith)
last_two_at f (x ∷ y ∷ z ∷ xs) a b zero e p q = absurd (omega arith)
last_two_at f (x ∷ y ∷ z ∷ xs) a b (suc k) e p q = last_two_at f (y ∷ z ∷ xs) a b k (omega arith) p q

pub last_two_there : {X A : Type 0} (f : X → List A) (xs : List X) (a b : X) (n : ℕ) → length xs ≡ n → 2 ≤ n → a ≡ get_or xs (n - 2) a → b ≡ get_or xs (n - 1) b → last_two_joined (map f xs) ≡ f a ++ f b
last_two_there f xs a b zero e h p q = absurd (omega arith)
last_two_there f xs a b (suc zero) e h p q = absurd (omega arith)
last_two_there f xs a b (suc (suc k)) e h p q =
    let i : suc (suc k) - 2 ≡ k = omega arith in
    let j : suc (suc k) - 1 ≡ suc k = omega arith in last_two_at f xs a b k e (p ∙ ap (λ n. get_or xs n a) i) (q ∙ ap (λ n. get_or xs n b) j)

-- the last two parts have no more items than all of them
pub last_two_joined-length : {A : Type 0} (xs : List (List A)) → length (last_two_joined xs) ≤ length (items_in xs)
last_two_joined-length [] = omega arith
last_two_joined-length (a ∷ []) = omega (arith, length-append a [])
last_two_joined-length (a ∷ b ∷ []) = omega (arith, length-append a b, length-append a (b ++ []), length-append b [])
last_two_joined-length (a ∷ b ∷ c ∷ xs) = omega (arith, last_two_joined-length (b ∷ c ∷ xs), length-append a (items_in (b ∷ c ∷ xs)))

pub last_two_fit : {A : Type 0} (xs : List (List A)) (a b : List A) (most : ℕ) → last_two_joined xs ≡ a ++ b → length (items_in xs) ≤ most → length a + length b ≤ most
last_two_fit xs a b most e h = omega (arith, last_two_joined-length xs, ap length e, length-append a b, h)
