-- The openings by words: one entry, one next move or one opening more of words that are there, and of new ones.
use Prim.Native.Nat.{zero}
use Rattle.std.proofs.Common.{◌≡◌, ℕ, suc, ◌+◌, Bool, true, false, cond, inl, inr, List, [], ◌∷◌, refl, sym, ap, ◌∙◌, subst, arith}
use Rattle.std.specs.Prelude.{All, nat_eq}
use Rattle.std.specs.Cmp.Lexicographic.{pointwise, slice_cmp}
use Rattle.std.specs.Ordering.{nat_cmp}
use Rattle.std.specs.declared.cmp.Ordering.{Ordering}
use Rattle.std.specs.declared.cmp.Ordering.TheVariants.{Less, Equal, Greater}
use Rattle.std.proofs.lemmas.Bool.{false_from_ne_true, false≢true}
use Rattle.std.proofs.lemmas.List.Elements.{All-cons, All-head, All-nil, All-tail}
use Rattle.std.proofs.lemmas.Slice.Eq.{bytes_eq-Decides}
use Rattle.kb_geometry.specs.Capture.{Position}
use Rattle.opening_tree.specs.declared.answer.Opening.{Opening}
use Rattle.opening_tree.specs.Canonical.{IsBefore}
use Rattle.opening_tree.specs.Entries.{Entry}
use Rattle.opening_tree.specs.Groups.{AreSorted, Grouped, IsGroupWithin, IsRowWithin, none_yet, opening_with, with_entry, with_group, with_next, with_one, with_row, with_rows}
use Rattle.opening_tree.specs.OpeningTables.{IsSaidAt, begun, changed}
use Rattle.opening_tree.specs.StoredGroups.{AreKeys, IsKeyAt, Stored, group_shown, groups_shown}
use Rattle.opening_tree.specs.NextMoves.{NextAt}
use Rattle.opening_tree.specs.Openings.{is_same_position}
use Rattle.opening_tree.specs.Packing.{AreCells, cells_of}
use Rattle.opening_tree.proofs.PackedCells.{before-words}
use Rattle.opening_tree.proofs.PositionOrder.{not_before_itself}
use Rattle.opening_tree.proofs.SamePositions.{same_position, told}
use Rattle.opening_tree.proofs.WordOrder.{lists_equal, lists_greater}

-- ---- words and positions

module _ (points : ℕ) (xs ys : List ℕ) (are_xs : AreCells points xs) (are_ys : AreCells points ys) where
  -- words of one position are one
  cells-only : cells_of points xs ≡ cells_of points ys → xs ≡ ys
  cells-only e = by (slice_cmp nat_cmp xs ys) refl
    where
      by : (o : Ordering) → slice_cmp nat_cmp xs ys ≡ o → xs ≡ ys
      by Less is = absurd (not_before_itself (cells_of points ys) (subst (λ (p : Position). IsBefore p (cells_of points ys)) e (before-words points points xs ys refl are_xs are_ys is)))
      by Equal is = lists_equal xs ys is
      by Greater is = absurd (not_before_itself (cells_of points ys) (subst (λ (p : Position). IsBefore (cells_of points ys) p) e (before-words points points ys xs refl are_ys are_xs (lists_greater xs ys is))))

  pub same_words : pointwise nat_eq xs ys ≡ is_same_position (cells_of points xs) (cells_of points ys)
  same_words = elim (told (pointwise nat_eq xs ys)) [
    | inl t ↦ t ∙ sym ((same_position (cells_of points xs) (cells_of points ys)).1 (ap (cells_of points) ((bytes_eq-Decides xs ys).0 t)))
    | inr f ↦ f ∙ sym (false_from_ne_true (is_same_position (cells_of points xs) (cells_of points ys)) (λ t.
        let e = cells-only ((same_position (cells_of points xs) (cells_of points ys)).0 t) in
        false≢true (sym f ∙ (bytes_eq-Decides xs ys).1 e)))
  ]

-- ---- the opening of some words

module _ (points : ℕ) (words : List ℕ) (are : AreCells points words) where
  same_key : (x : Stored) → AreCells points x.0 → pointwise nat_eq words x.0 ≡ is_same_position (cells_of points words) (cells_of points x.0)
  same_key x keys = same_words points words x.0 are keys

  own_key : (x : Stored) (xs : List Stored) → AreKeys points (x ∷ xs) → x.0 ≡ words → is_same_position (cells_of points words) (cells_of points x.0) ≡ true
  own_key x xs keys is = sym (same_key x (All-head (λ (y : Stored). AreCells points y.0) x xs keys)) ∙ (bytes_eq-Decides words x.0).1 (sym is)

  other_key : (x : Stored) (xs : List Stored) → AreKeys points (x ∷ xs) → ¬ (x.0 ≡ words) → is_same_position (cells_of points words) (cells_of points x.0) ≡ false
  other_key x xs keys ne =
      sym (same_key x (All-head (λ (y : Stored). AreCells points y.0) x xs keys))
      ∙ false_from_ne_true (pointwise nat_eq words x.0) (λ t. ne (sym ((bytes_eq-Decides words x.0).0 t)))

  module _ (W : List Grouped → List Grouped) (F : Opening → Opening) (own : (g : Grouped) (gs : List Grouped) → is_same_position (cells_of points words) g.canonical ≡ true → W (g ∷ gs) ≡ record { canonical = g.canonical; opening = F g.opening } ∷ gs) (pass : (g : Grouped) (gs : List Grouped) → is_same_position (cells_of points words) g.canonical ≡ false → W (g ∷ gs) ≡ g ∷ W gs) where
    -- it changes
    changed_at : (es : List Stored) (at : ℕ) → AreKeys points es → IsKeyAt es at words → groups_shown points (changed F es at) ≡ W (groups_shown points es)
    changed_at [] at keys is = absurd is
    changed_at (x ∷ xs) zero keys is = sym (own (group_shown points x) (groups_shown points xs) (own_key x xs keys is))
    changed_at (x ∷ xs) (suc at) keys is =
        ap (λ gs. group_shown points x ∷ gs) (changed_at xs at (All-tail (λ (y : Stored). AreCells points y.0) x xs keys) is.1)
        ∙ sym (pass (group_shown points x) (groups_shown points xs) (other_key x xs keys is.0))

    -- it is begun first
    begun_first : (none : Opening) → W (record { canonical = cells_of points words; opening = none } ∷ []) ≡ W [] → (es : List Stored) → AreKeys points es → W (groups_shown points (begun es words none)) ≡ W (groups_shown points es)
    begun_first none first [] keys = first
    begun_first none first (x ∷ xs) keys = by (pointwise nat_eq words x.0) refl (begun_first none first xs (All-tail (λ (y : Stored). AreCells points y.0) x xs keys))
      where
        by : (b : Bool) → pointwise nat_eq words x.0 ≡ b → W (groups_shown points (begun xs words none)) ≡ W (groups_shown points xs) → W (groups_shown points (cond b (x ∷ xs) (x ∷ begun xs words none))) ≡ W (groups_shown points (x ∷ xs))
        by true t rest = refl
        by false f rest =
            let other : is_same_position (cells_of points words) (cells_of points x.0) ≡ false = sym (same_key x (All-head (λ (y : Stored). AreCells points y.0) x xs keys)) ∙ f in
            pass (group_shown points x) (groups_shown points (begun xs words none)) other
            ∙ ap (λ gs. group_shown points x ∷ gs) rest
            ∙ sym (pass (group_shown points x) (groups_shown points xs) other)

  -- ---- keys and numbers

  pub keys_begun : (none : Opening) (es : List Stored) → AreKeys points es → AreKeys points (begun es words none)
  keys_begun none [] keys = All-cons (λ (y : Stored). AreCells points y.0) (words, none) [] are (All-nil (λ (y : Stored). AreCells points y.0))
  keys_begun none (x ∷ xs) keys = by (pointwise nat_eq words x.0) (keys_begun none xs (All-tail (λ (y : Stored). AreCells points y.0) x xs keys))
    where
      by : (b : Bool) → AreKeys points (begun xs words none) → AreKeys points (cond b (x ∷ xs) (x ∷ begun xs words none))
      by true rest = keys
      by false rest = All-cons (λ (y : Stored). AreCells points y.0) x (begun xs words none) (All-head (λ (y : Stored). AreCells points y.0) x xs keys) rest

  -- what is said of all openings, and of one of no entry, is said of all once it is begun
  pub said_begun : (P : Opening → Type 0) (none : Opening) → P none → (es : List Stored) → All (λ (g : Grouped). P g.opening) (groups_shown points es) → All (λ (g : Grouped). P g.opening) (groups_shown points (begun es words none))
  said_begun P none is [] all = All-cons (λ (g : Grouped). P g.opening) (group_shown points (words, none)) [] is (All-nil (λ (g : Grouped). P g.opening))
  said_begun P none is (x ∷ xs) all = by (pointwise nat_eq words x.0) (said_begun P none is xs (All-tail (λ (g : Grouped). P g.opening) (group_shown points x) (groups_shown points xs) all))
    where
      by : (b : Bool) → All (λ (g : Grouped). P g.opening) (groups_shown points (begun xs words none)) → All (λ (g : Grouped). P g.opening) (groups_shown points (cond b (x ∷ xs) (x ∷ begun xs words none)))
      by true rest = all
      by false rest = All-cons (λ (g : Grouped). P g.opening) (group_shown points x) (groups_shown points (begun xs words none)) (All-head (λ (g : Grouped). P g.opening) (group_shown points x) (groups_shown points xs) all) rest

  -- what is said of all openings is said of that with a number
  pub said_at : (P : Opening → Type 0) (es : List Stored) (at : ℕ) → IsKeyAt es at words → All (λ (g : Grouped). P g.opening) (groups_shown points es) → IsSaidAt P es at
  said_at P [] at is all = is
  said_at P (x ∷ xs) zero is all = All-head (λ (g : Grouped). P g.opening) (group_shown points x) (groups_shown points xs) all
  said_at P (x ∷ xs) (suc at) is all = said_at P xs at is.1 (All-tail (λ (g : Grouped). P g.opening) (group_shown points x) (groups_shown points xs) all)

  -- ---- an entry

  module _ (e : Entry) (canonical : cells_of points words ≡ e.canonical) where
    own_entry : (g : Grouped) (gs : List Grouped) → is_same_position (cells_of points words) g.canonical ≡ true → with_entry (g ∷ gs) e ≡ record { canonical = g.canonical; opening = with_one g.opening e.outcome } ∷ gs
    own_entry g gs t =
        let here : is_same_position e.canonical g.canonical ≡ true = subst (λ (p : Position). is_same_position p g.canonical ≡ true) canonical t in
        ap (λ b. cond b (record { canonical = g.canonical; opening = with_one g.opening e.outcome } ∷ gs) (g ∷ with_entry gs e)) here

    pass_entry : (g : Grouped) (gs : List Grouped) → is_same_position (cells_of points words) g.canonical ≡ false → with_entry (g ∷ gs) e ≡ g ∷ with_entry gs e
    pass_entry g gs f =
        let here : is_same_position e.canonical g.canonical ≡ false = subst (λ (p : Position). is_same_position p g.canonical ≡ false) canonical f in
        ap (λ b. cond b (record { canonical = g.canonical; opening = with_one g.opening e.outcome } ∷ gs) (g ∷ with_entry gs e)) here

    first_entry : with_entry (record { canonical = cells_of points words; opening = none_yet e.game e.node } ∷ []) e ≡ with_entry [] e
    first_entry =
        own_entry (record { canonical = cells_of points words; opening = none_yet e.game e.node }) [] ((same_position (cells_of points words) (cells_of points words)).1 refl)
        ∙ ap (λ (p : Position). record { canonical = p; opening = with_one (none_yet e.game e.node) e.outcome } ∷ []) canonical

    pub entry_counted : (none : Opening) → none ≡ none_yet e.game e.node → (es : List Stored) (at : ℕ) → AreKeys points es → IsKeyAt (begun es words none) at words → groups_shown points (changed (λ o. with_one o e.outcome) (begun es words none) at) ≡ with_entry (groups_shown points es) e
    entry_counted none is es at keys key =
        changed_at (λ gs. with_entry gs e) (λ o. with_one o e.outcome) own_entry pass_entry (begun es words none) at (keys_begun none es keys) key
        ∙ begun_first (λ gs. with_entry gs e) (λ o. with_one o e.outcome) own_entry pass_entry none (ap (λ (o : Opening). with_entry (record { canonical = cells_of points words; opening = o } ∷ []) e) is ∙ first_entry) es keys

  -- ---- a next move

  module _ (n : NextAt) (canonical : cells_of points words ≡ n.canonical) where
    own_next : (g : Grouped) (gs : List Grouped) → is_same_position (cells_of points words) g.canonical ≡ true → with_next (g ∷ gs) n ≡ record { canonical = g.canonical; opening = with_rows g.opening (with_row g.opening.nexts n.played n.outcome) } ∷ gs
    own_next g gs t =
        let here : is_same_position n.canonical g.canonical ≡ true = subst (λ (p : Position). is_same_position p g.canonical ≡ true) canonical t in
        ap (λ b. cond b (record { canonical = g.canonical; opening = with_rows g.opening (with_row g.opening.nexts n.played n.outcome) } ∷ gs) (g ∷ with_next gs n)) here

    pass_next : (g : Grouped) (gs : List Grouped) → is_same_position (cells_of points words) g.canonical ≡ false → with_next (g ∷ gs) n ≡ g ∷ with_next gs n
    pass_next g gs f =
        let here : is_same_position n.canonical g.canonical ≡ false = subst (λ (p : Position). is_same_position p g.canonical ≡ false) canonical f in
        ap (λ b. cond b (record { canonical = g.canonical; opening = with_rows g.opening (with_row g.opening.nexts n.played n.outcome) } ∷ gs) (g ∷ with_next gs n)) here

    pub next_counted : (es : List Stored) (at : ℕ) → AreKeys points es → IsKeyAt es at words → groups_shown points (changed (λ o. with_rows o (with_row o.nexts n.played n.outcome)) es at) ≡ with_next (groups_shown points es) n
    next_counted = changed_at (λ gs. with_next gs n) (λ o. with_rows o (with_row o.nexts n.played n.outcome)) own_next pass_next

  -- ---- an opening of more games

  module _ (more : Opening) (sorted : AreSorted more.nexts) where
    abbrev group : Grouped
    group = record { canonical = cells_of points words; opening = more }

    own_group : (g : Grouped) (gs : List Grouped) → is_same_position (cells_of points words) g.canonical ≡ true → with_group (g ∷ gs) group ≡ record { canonical = g.canonical; opening = opening_with g.opening more } ∷ gs
    own_group g gs t = ap (λ b. cond b (record { canonical = g.canonical; opening = opening_with g.opening more } ∷ gs) (g ∷ with_group gs group)) t

    pass_group : (g : Grouped) (gs : List Grouped) → is_same_position (cells_of points words) g.canonical ≡ false → with_group (g ∷ gs) group ≡ g ∷ with_group gs group
    pass_group g gs f = ap (λ b. cond b (record { canonical = g.canonical; opening = opening_with g.opening more } ∷ gs) (g ∷ with_group gs group)) f

    -- an opening of no entry with those of another one is that one
    first_with : opening_with (none_yet more.game more.node) more ≡ more
    first_with =
        let count : 0 + more.count ≡ more.count = omega arith in
        let black : 0 + more.black ≡ more.black = omega arith in
        let white : 0 + more.white ≡ more.white = omega arith in
        let other : 0 + more.other ≡ more.other = omega arith in
        λ i. record { count = count i; black = black i; white = white i; other = other i; game = more.game; node = more.node; nexts = sorted i }

    first_group : with_group (record { canonical = cells_of points words; opening = none_yet more.game more.node } ∷ []) group ≡ with_group [] group
    first_group =
        own_group (record { canonical = cells_of points words; opening = none_yet more.game more.node }) [] ((same_position (cells_of points words) (cells_of points words)).1 refl)
        ∙ ap (λ (o : Opening). record { canonical = cells_of points words; opening = o } ∷ []) first_with

    module _ (none : Opening) (is : none ≡ none_yet more.game more.node) (es : List Stored) (keys : AreKeys points es) where
      -- it is begun first
      group_first : with_group (groups_shown points (begun es words none)) group ≡ with_group (groups_shown points es) group
      group_first = begun_first (λ gs. with_group gs group) (λ o. opening_with o more) own_group pass_group none (ap (λ (o : Opening). with_group (record { canonical = cells_of points words; opening = o } ∷ []) group) is ∙ first_group) es keys

      pub group_counted : (at : ℕ) → IsKeyAt (begun es words none) at words → groups_shown points (changed (λ o. opening_with o more) (begun es words none) at) ≡ with_group (groups_shown points es) group
      group_counted at key =
          changed_at (λ gs. with_group gs group) (λ o. opening_with o more) own_group pass_group (begun es words none) at (keys_begun none es keys) key
          ∙ group_first

      -- what is said of all openings once it is added is said of that with its key
      said_in : (P : Opening → Type 0) (ys : List Stored) (at : ℕ) → AreKeys points ys → IsKeyAt ys at words → All (λ (g : Grouped). P g.opening) (with_group (groups_shown points ys) group) → IsSaidAt (λ o. P (opening_with o more)) ys at
      said_in P [] at own key all = key
      said_in P (x ∷ xs) zero own key all =
          All-head (λ (g : Grouped). P g.opening) (record { canonical = cells_of points x.0; opening = opening_with x.1 more }) (groups_shown points xs)
          (subst (λ (gs : List Grouped). All (λ (g : Grouped). P g.opening) gs) (own_group (group_shown points x) (groups_shown points xs) (own_key x xs own key)) all)
      said_in P (x ∷ xs) (suc at) own key all =
          said_in P xs at (All-tail (λ (y : Stored). AreCells points y.0) x xs own) key.1
          (All-tail (λ (g : Grouped). P g.opening) (group_shown points x) (with_group (groups_shown points xs) group)
          (subst (λ (gs : List Grouped). All (λ (g : Grouped). P g.opening) gs) (pass_group (group_shown points x) (groups_shown points xs) (other_key x xs own key.0)) all))

      pub said_with : (P : Opening → Type 0) (at : ℕ) → IsKeyAt (begun es words none) at words → All (λ (g : Grouped). P g.opening) (with_group (groups_shown points es) group) → IsSaidAt (λ o. P (opening_with o more)) (begun es words none) at
      said_with P at key all =
          said_in P (begun es words none) at (keys_begun none es keys) key
          (subst (λ (gs : List Grouped). All (λ (g : Grouped). P g.opening) gs) (sym group_first) all)

-- ---- a change keeps the words

module _ (points : ℕ) (F : Opening → Opening) where
  pub keys_changed : (es : List Stored) (at : ℕ) → AreKeys points es → AreKeys points (changed F es at)
  keys_changed [] at keys = keys
  keys_changed (x ∷ xs) zero keys =
      All-cons (λ (y : Stored). AreCells points y.0) (x.0, F x.1) xs (All-head (λ (y : Stored). AreCells points y.0) x xs keys) (All-tail (λ (y : Stored). AreCells points y.0) x xs keys)
  keys_changed (x ∷ xs) (suc at) keys =
      All-cons (λ (y : Stored). AreCells points y.0) x (changed F xs at) (All-head (λ (y : Stored). AreCells points y.0) x xs keys) (keys_changed xs at (All-tail (λ (y : Stored). AreCells points y.0) x xs keys))

-- an opening of no entry is within every bound
pub none-within : (most game node : ℕ) → IsGroupWithin most (none_yet game node)
none-within most game node = record {
  count = omega arith;
  black = omega arith;
  white = omega arith;
  other = omega arith;
  rows = All-nil (IsRowWithin most);
}
