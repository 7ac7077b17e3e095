-- Blocks of games: one block more, and the block of a game.
use Rattle.std.proofs.Common.{get_or, ◌≡◌, ◌+◌, ◌-◌, ◌<◌, ◌≤◌, ℕ, inl, inr, List, [], ◌∷◌, ◌++◌, take, drop, map, length, length-append, ap, refl, sym, subst, ◌∙◌, arith, append_assoc, Some}
use Rattle.std.proofs.Math.Seq.{get_or-append_seam, take-append_seam, take-length}
use Rattle.std.proofs.lemmas.Bool.{cases_lt}
use Rattle.std.proofs.lemmas.List.{append-nil, drop-take, get_or_append_left, map-append, take-append-drop, take-append-le, take-take, take_more, take_rest}
use Rattle.std.proofs.lemmas.List.Concat.{flat_map-append, get_or-flat_map}
use Rattle.std.proofs.lemmas.List.Folds.{length-flat_map-take}
use Rattle.std.proofs.lemmas.Option.{get_or_from_slice_get, slice_get-get_or, slice_get_within}
use Rattle.std.specs.List.{slice_get}
use Rattle.node_position.specs.Games.{Game}
use Rattle.segment_store.specs.declared.block.NumberedBlock.{NumberedBlock}
use Rattle.segment_store.specs.Blocks.{AreBlocks, AreNumbered, games_in, games_of}

-- the games of one block more
pub games_more : (blocks : List NumberedBlock) (p : NumberedBlock) → games_in (blocks ++ p ∷ []) ≡ games_in blocks ++ games_of p
games_more blocks p = flat_map-append games_of blocks (p ∷ []) ∙ ap (λ xs. games_in blocks ++ xs) (append-nil (games_of p))

pub numbered_more : (blocks : List NumberedBlock) (p : NumberedBlock) → AreNumbered blocks → p.first ≡ length (games_in blocks) → AreNumbered (blocks ++ p ∷ [])
numbered_more blocks p numbered first k d below = elim (cases_lt k (length blocks)) [
  | inl lower ↦ ap (λ q. q.first) (get_or_append_left blocks (p ∷ []) d k lower) ∙ (numbered k d lower ∙ ap (λ xs. length (games_in xs)) (sym (take-append-le k blocks (p ∷ []) (omega (arith, lower)))))
  | inr upper ↦
      let last : k ≡ length blocks = omega (arith, upper, below, length-append blocks (p ∷ [])) in
      subst (λ n. (get_or (blocks ++ p ∷ []) n d).first ≡ length (games_in (take n (blocks ++ p ∷ [])))) (sym last)
      (ap (λ q. q.first) (get_or-append_seam blocks p [] d) ∙ (first ∙ ap (λ xs. length (games_in xs)) (sym (take-append_seam blocks (p ∷ [])))))
]

-- no block
pub AreBlocks-none : AreBlocks [] 0
AreBlocks-none = record { numbered = λ k d below. absurd (omega (arith, below)); counted = refl; most = omega arith }

-- one block more
pub AreBlocks-more : (blocks : List NumberedBlock) (p : NumberedBlock) (count more : ℕ) → AreBlocks blocks count → p.first ≡ count → more ≡ length (games_of p) → count + more ≤ 400000 → AreBlocks (blocks ++ p ∷ []) (count + more)
AreBlocks-more blocks p count more are first long most =
    let all = ap length (games_more blocks p) ∙ length-append (games_in blocks) (games_of p) in
    record { numbered = numbered_more blocks p are.numbered (first ∙ are.counted); counted = omega (arith, all, long, are.counted); most = most }

-- a game behind the blocks before this one, and within the blocks up to it, is in this block
pub in_block : (blocks : List NumberedBlock) (k g : ℕ) (e : NumberedBlock) → k < length blocks → length (games_in (take k blocks)) ≤ g → g < length (games_in (take (k + 1) blocks)) → g - length (games_in (take k blocks)) < length (games_of (get_or blocks k e))
in_block blocks k g e within low high =
    let long = ap (λ xs. length (games_in xs)) (take_more blocks k e within) ∙ (ap length (games_more (take k blocks) (get_or blocks k e)) ∙ length-append (games_in (take k blocks)) (games_of (get_or blocks k e))) in
    omega (arith, long, low, high)

-- what a block has at a place, the whole has behind the blocks before it
pub found_in_block : (blocks : List NumberedBlock) (k g : ℕ) (e : NumberedBlock) (x : Game) → k < length blocks → length (games_in (take k blocks)) ≤ g → slice_get (games_of (get_or blocks k e)) (g - length (games_in (take k blocks))) ≡ Some x → slice_get (games_in blocks) g ≡ Some x
found_in_block blocks k g e x within low found =
    let before = length (games_in (take k blocks)) in
    let j = g - before in
    let inside : j < length (games_of (get_or blocks k e)) = slice_get_within (games_of (get_or blocks k e)) j x found in
    let at : before + j ≡ g = omega (arith, low) in
    let fits = length-flat_map-take games_of blocks k e within in
    let read = get_or-flat_map games_of blocks k j e x within inside ∙ get_or_from_slice_get (games_of (get_or blocks k e)) j x x found in
    let there = slice_get-get_or (games_in blocks) (before + j) x (omega (arith, fits, inside)) in
    subst (λ n. slice_get (games_in blocks) n ≡ Some x) at (there ∙ ap Some read)

-- there is room for the next block where there is room for all
pub room_for : (before : List Game) (blocks : List NumberedBlock) (n : ℕ) (e : NumberedBlock) (whole more : List Game) → n < length blocks → whole ≡ before ++ games_in (take n blocks) → more ≡ games_of (get_or blocks n e) → length before + length (games_in blocks) ≤ 400000 → length whole + length more ≤ 400000
room_for before blocks n e whole more within is next room =
    let fits = length-flat_map-take games_of blocks n e within in
    omega (arith, ap length is, length-append before (games_in (take n blocks)), ap length next, fits, room)

-- the blocks up to the last, and the last
pub games_to_last : (blocks : List NumberedBlock) (e : NumberedBlock) → 0 < length blocks → games_in blocks ≡ games_in (take (length blocks - 1) blocks) ++ games_of (get_or blocks (length blocks - 1) e)
games_to_last blocks e some =
    let k = length blocks - 1 in
    let all : k + 1 ≡ length blocks = omega (arith, some) in
    ap games_in (sym (take-length blocks)) ∙ (ap (λ n. games_in (take n blocks)) (sym all) ∙ (ap games_in (take_more blocks k e (omega (arith, some))) ∙ games_more (take k blocks) (get_or blocks k e)))

-- the first block, and the blocks behind it
pub games_from_first : (blocks : List NumberedBlock) (e : NumberedBlock) → 0 < length blocks → games_in blocks ≡ games_of (get_or blocks 0 e) ++ games_in (drop 1 blocks)
games_from_first [] e some = absurd (omega (arith, some))
games_from_first (p ∷ blocks) e some = refl

-- a list up to one place, and on to another
pub taken_on : {X Y : Type 0} (v : X → Y) (xs : List X) (from more : ℕ) → map v (take from xs) ++ map v (take more (drop from xs)) ≡ map v (take (from + more) xs)
taken_on v xs from more =
    sym (map-append v (take from xs) (take more (drop from xs))) ∙ ap (map v) (ap (λ ys. take from xs ++ ys) (sym (drop-take from more xs)) ∙ (ap (λ ys. ys ++ drop from (take (from + more) xs)) (sym (take-take from (from + more) xs (omega arith))) ∙ take-append-drop from (take (from + more) xs)))

pub taken_to : {X Y : Type 0} (v : X → Y) (xs : List X) (from to : ℕ) (done more all : List Y) → done ≡ map v (take from xs) → more ≡ map v (take (to - from) (drop from xs)) → all ≡ done ++ more → from ≤ to → all ≡ map v (take to xs)
taken_to v xs from to done more all before next is low =
    let on : from + (to - from) ≡ to = omega (arith, low) in
    is ∙ (ap (λ ys. ys ++ more) before ∙ (ap (λ ys. map v (take from xs) ++ ys) next ∙ (taken_on v xs from (to - from) ∙ ap (λ n. map v (take n xs)) on)))

-- the game with a number, found in a block by the number of the block's first game
pub found_by_number : (blocks : List NumberedBlock) (k g : ℕ) (p : NumberedBlock) (block whole : List Game) (x : Game) → AreNumbered blocks → k < length blocks → length (games_in (take k blocks)) ≤ g → p ≡ get_or blocks k p → block ≡ games_of p → games_in blocks ≡ whole → slice_get block (g - p.first) ≡ Some x → slice_get whole g ≡ Some x
found_by_number blocks k g p block whole x numbered within low there is all found =
    let first : p.first ≡ length (games_in (take k blocks)) = ap (λ q. q.first) there ∙ numbered k p within in
    let in_p = subst (λ n. slice_get (games_of p) (g - n) ≡ Some x) first (subst (λ ys. slice_get ys (g - p.first) ≡ Some x) is found) in
    let in_k = subst (λ q. slice_get (games_of q) (g - length (games_in (take k blocks))) ≡ Some x) there in_p in
    subst (λ ys. slice_get ys g ≡ Some x) all (found_in_block blocks k g p x within low in_k)

regrouped : (a b c d : List Game) → (a ++ (b ++ c)) ++ d ≡ (a ++ b) ++ (c ++ d)
regrouped a b c d = simp append_assoc

-- the blocks of two segments, where the last of the one and the first of the other are one block
pub games_joined : (one other : List NumberedBlock) (last first : NumberedBlock) (x y : List Game) → 0 < length one → 0 < length other → last ≡ get_or one (length one - 1) last → first ≡ get_or other 0 first → games_in one ≡ x → games_in other ≡ y → (games_in (take (length one - 1) one) ++ (games_of last ++ games_of first)) ++ games_in (take (length other - 1) (drop 1 other)) ≡ x ++ y
games_joined one other last first x y some_one some_other is_last is_first all_one all_other =
    let before = games_in (take (length one - 1) one) in
    let behind = games_in (drop 1 other) in
    let one_is : before ++ games_of last ≡ x = ap (λ q. before ++ games_of q) is_last ∙ (sym (games_to_last one last some_one) ∙ all_one) in
    let other_is : games_of first ++ behind ≡ y = ap (λ q. games_of q ++ behind) is_first ∙ (sym (games_from_first other first some_other) ∙ all_other) in
    ap (λ zs. (before ++ (games_of last ++ games_of first)) ++ games_in zs) (take_rest other 1) ∙ (regrouped before (games_of last) (games_of first) behind ∙ (ap (λ zs. zs ++ (games_of first ++ behind)) one_is ∙ ap (λ zs. x ++ zs) other_is))
