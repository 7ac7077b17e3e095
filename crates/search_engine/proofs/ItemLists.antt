-- Blocks of games in a row: one block more, and a piece of them.
use Rattle.std.proofs.Common.{◌≡◌, ℕ, ◌+◌, ◌-◌, ◌<◌, ◌≤◌, inl, inr, List, [], ◌∷◌, ◌++◌, append_assoc, drop, get_or, length, length-append, refl, take, sym, ap, ◌∙◌, subst, arith}
use Rattle.std.proofs.Math.Seq.{drop-nil, get_or-append_seam, take-add, take-append_seam}
use Rattle.std.proofs.lemmas.Bool.{cases_lt}
use Rattle.std.proofs.lemmas.List.{append-nil, drop_all, get_or-drop, get_or-take, get_or_append_left, length-drop, length-take, take-append-le, take-take, take_more}
use Rattle.std.proofs.lemmas.List.Concat.{flat_map-append}
use Rattle.std.proofs.lemmas.List.Folds.{length-flat_map-take}
use Rattle.node_position.specs.Games.{Game}
use Rattle.segment_store.specs.declared.block.NumberedBlock.{NumberedBlock}
use Rattle.segment_store.specs.Blocks as segment
use Rattle.search_engine.specs.declared.item.Item.{Item}
use Rattle.search_engine.specs.Items.{AreItems, AreNumberedFrom, games_of_item, games_of_items}
use Rattle.search_engine.proofs.CutLists.{drop-both}

-- the games of one block more
games_more : (items : List Item) (i : Item) → games_of_items (items ++ i ∷ []) ≡ games_of_items items ++ games_of_item i
games_more items i = flat_map-append games_of_item items (i ∷ []) ∙ ap (λ gs. games_of_items items ++ gs) (append-nil (games_of_item i))

-- the games up to the next block
pub games_to_next : (items : List Item) (k : ℕ) (i : Item) → k < length items → i ≡ get_or items k i → games_of_items (take (k + 1) items) ≡ games_of_items (take k items) ++ games_of_item i
games_to_next items k i lt at = ap games_of_items (take_more items k i lt) ∙ games_more (take k items) (get_or items k i) ∙ ap (λ (j : Item). games_of_items (take k items) ++ games_of_item j) (sym at)

-- no block
pub AreItems-none : (first : ℕ) → AreItems first [] []
AreItems-none first = record { has_games = refl; numbered = λ k d below. absurd (omega (arith, below)) }

-- one block more
pub AreItems-more : (first : ℕ) (games : List Game) (items : List Item) (i : Item) → AreItems first games items → i.first ≡ first + length games → AreItems first (games ++ games_of_item i) (items ++ i ∷ [])
AreItems-more first games items i are number = record {
  has_games = games_more items i ∙ ap (λ gs. gs ++ games_of_item i) are.has_games;
  numbered = λ k d below. elim (cases_lt k (length items)) [
    | inl lower ↦ ap (λ (j : Item). j.first) (get_or_append_left items (i ∷ []) d k lower) ∙ (are.numbered k d lower ∙ ap (λ (is : List Item). first + length (games_of_items is)) (sym (take-append-le k items (i ∷ []) (omega (arith, lower)))))
    | inr upper ↦
        let last : k ≡ length items = omega (arith, upper, below, length-append items (i ∷ [])) in
        subst (λ n. (get_or (items ++ i ∷ []) n d).first ≡ first + length (games_of_items (take n (items ++ i ∷ [])))) (sym last)
        (ap (λ (j : Item). j.first) (get_or-append_seam items i [] d) ∙ (number ∙ ap (λ gs. first + length gs) (sym are.has_games) ∙ ap (λ (is : List Item). first + length (games_of_items is)) (sym (take-append_seam items (i ∷ [])))))
  ];
}

-- ---- the blocks of a segment

module _ (blocks : List NumberedBlock) (n : ℕ) (p : NumberedBlock) (numbered : segment.AreNumbered blocks) (lt : n < length blocks) (at : p ≡ get_or blocks n p) where
  pub number_before : p.first ≡ length (segment.games_in (take n blocks))
  number_before = ap (λ (q : NumberedBlock). q.first) at ∙ numbered n p lt

  -- a block lies within its segment
  pub block_within : p.first + length (segment.games_of p) ≤ length (segment.games_in blocks)
  block_within =
      let long = length-flat_map-take segment.games_of blocks n p lt in
      let same = ap (λ (q : NumberedBlock). length (segment.games_of q)) at in
      omega (arith, number_before, long, same)

  -- the games of a segment up to the next block
  pub blocks_to_next : segment.games_in (take (n + 1) blocks) ≡ segment.games_in (take n blocks) ++ segment.games_of p
  blocks_to_next =
      let before = segment.games_in (take n blocks) in
      ap segment.games_in (take_more blocks n p lt) ∙ flat_map-append segment.games_of (take n blocks) (get_or blocks n p ∷ []) ∙ ap (λ gs. before ++ gs) (append-nil (segment.games_of (get_or blocks n p)))
      ∙ ap (λ (q : NumberedBlock). before ++ segment.games_of q) (sym at)

-- ---- the blocks of a segment from a game on

module _ (base from : ℕ) (games : List Game) where
  -- no block yet
  pub AreItems-start : (items : List Item) → AreItems base games items → AreItems base (games ++ drop from []) items
  AreItems-start items are = subst (λ gs. AreItems base gs items) (sym (ap (λ gs. games ++ gs) (drop-nil from) ∙ append-nil games)) are

  module _ (before : List Game) (items : List Item) (so_far : AreItems base (games ++ drop from before) items) (at : ℕ) (number : at ≡ length before) (block : List Game) where
    behind : drop from (before ++ block) ≡ drop from before ++ drop (from - at) block
    behind = drop-both from before block ∙ ap (λ n. drop from before ++ drop (from - n) block) (sym number)

    -- a block that ends before the game
    pub AreItems-passed : length block ≤ from - at → AreItems base (games ++ drop from (before ++ block)) items
    AreItems-passed all =
        let same : drop from before ≡ drop from (before ++ block) = sym (append-nil (drop from before)) ∙ ap (λ gs. drop from before ++ gs) (sym (drop_all (from - at) block all)) ∙ sym behind in
        subst (λ gs. AreItems base (games ++ gs) items) same so_far

    -- another one
    pub AreItems-cut : (first : ℕ) → first ≡ base + length games → (new : List Item) (i : Item) → new ≡ items ++ i ∷ [] → i.first ≡ first + (at - from) → i.skip ≡ from - at → i.block.now ≡ block → AreItems base (games ++ drop from (before ++ block)) new
    AreItems-cut first is new i pushed numbered skip same =
        let own : games_of_item i ≡ drop (from - at) block = ap (λ n. drop n i.block.now) skip ∙ ap (λ gs. drop (from - at) gs) same in
        let all : (games ++ drop from before) ++ games_of_item i ≡ games ++ drop from (before ++ block) =
        append_assoc games (drop from before) (games_of_item i) ∙ ap (λ gs. games ++ (drop from before ++ gs)) own ∙ ap (λ gs. games ++ gs) (sym behind) in
        let place : i.first ≡ base + length (games ++ drop from before) = omega (arith, numbered, is, number, length-append games (drop from before), length-drop from before) in
        subst (AreItems base (games ++ drop from (before ++ block))) (sym pushed)
        (subst (λ gs. AreItems base gs (items ++ i ∷ [])) all (AreItems-more base (games ++ drop from before) items i so_far place))

-- ---- pieces of a list of blocks

-- the games up to the end of a piece
pub games_to_piece : (items : List Item) (n size : ℕ) → games_of_items (take (n + size) items) ≡ games_of_items (take n items) ++ games_of_items (take size (drop n items))
games_to_piece items n size = ap games_of_items (take-add n size items) ∙ flat_map-append games_of_item (take n items) (take size (drop n items))

-- a piece is numbered from the number of its first game on
pub AreNumberedFrom-piece : (first : ℕ) (items : List Item) (n size : ℕ) → AreNumberedFrom first items → AreNumberedFrom (first + length (games_of_items (take n items))) (take size (drop n items))
AreNumberedFrom-piece first items n size numbered k d below =
    let short : k < size = omega (arith, below, length-take size (drop n items)) in
    let inside : n + k < length items = omega (arith, below, length-take size (drop n items), length-drop n items) in
    let here : get_or (take size (drop n items)) k d ≡ get_or items (n + k) d = get_or-take size (drop n items) k d short ∙ get_or-drop n items k d in
    let parts : games_of_items (take (n + k) items) ≡ games_of_items (take n items) ++ games_of_items (take k (take size (drop n items))) = games_to_piece items n k ∙ ap (λ is. games_of_items (take n items) ++ games_of_items is) (sym (take-take k size (drop n items) (omega (arith, short)))) in
    let long = ap length parts ∙ length-append (games_of_items (take n items)) (games_of_items (take k (take size (drop n items)))) in
    ap (λ (i : Item). i.first) here ∙ (numbered (n + k) d inside ∙ omega (arith, long))
