-- Openings of keys, counts and lists of rows: which stand there, one that changes, and one that is begun.
use Prim.Native.Nat.{zero}
use Rattle.std.proofs.Common.{◌≡◌, ℕ, suc, ◌+◌, ◌<◌, ◌≤◌, Bool, true, false, cond, List, [], ◌∷◌, ◌++◌, length, get_or, set, refl, sym, ap, ◌∙◌, arith}
use Rattle.std.specs.Prelude.{nat_eq}
use Rattle.std.specs.Cmp.Lexicographic.{pointwise}
use Rattle.std.proofs.lemmas.Bool.{false≢true}
use Rattle.std.proofs.lemmas.Slice.Eq.{bytes_eq-Decides}
use Rattle.opening_tree.specs.declared.answer.NextMove.{NextMove}
use Rattle.opening_tree.specs.declared.answer.Opening.{Opening}
use Rattle.opening_tree.specs.declared.opening_so_far.OpeningCounts.{OpeningCounts}
use Rattle.opening_tree.specs.Keys.{number_of, with_key}
use Rattle.opening_tree.specs.declared.row_lists.RowLists.{RowLists}
use Rattle.opening_tree.specs.OpeningTables.{IsOpeningTable, IsSaidAt, begun, changed, lists_of, opening_in, stored_in}
use Rattle.opening_tree.specs.StoredGroups.{IsKeyAt, Stored}
use Rattle.opening_tree.proofs.RowListTables.{length-lists}

-- what is said of an opening with a number is said of one that is there
pub said-lt : (P : Opening → Type 0) (es : List Stored) (at : ℕ) → IsSaidAt P es at → at < length es
said-lt P [] at said = absurd said
said-lt P (e ∷ es) zero said = omega arith
said-lt P (e ∷ es) (suc at) said = omega (arith, said-lt P es at said)

-- ---- the openings of as many keys, counts and lists of rows

-- as many of each
pub record AreSoMany (ks : List (List ℕ)) (cs : List OpeningCounts) (rs : List (List NextMove)) : Type 0 where
  pub counted : length cs ≡ length ks
  pub listed : length rs ≡ length ks

pub many-table : (ks : List (List ℕ)) (cs : List OpeningCounts) (r : RowLists) → IsOpeningTable ks cs r → AreSoMany ks cs (lists_of r)
many-table ks cs r table = record {
  counted = table.counted;
  listed = length-lists (length r.firsts.items) r.rows.items r.lists.items ∙ table.listed;
}

many-tail : (k : List ℕ) (ks : List (List ℕ)) (c : OpeningCounts) (cs : List OpeningCounts) (r : List NextMove) (rs : List (List NextMove)) → AreSoMany (k ∷ ks) (c ∷ cs) (r ∷ rs) → AreSoMany ks cs rs
many-tail k ks c cs r rs many = record { counted = omega (arith, many.counted); listed = omega (arith, many.listed) }

pub length-stored : (ks : List (List ℕ)) (cs : List OpeningCounts) (rs : List (List NextMove)) → AreSoMany ks cs rs → length (stored_in ks cs rs) ≡ length ks
length-stored [] cs rs many = refl
length-stored (k ∷ ks) [] rs many = absurd (omega (arith, many.counted))
length-stored (k ∷ ks) (c ∷ cs) [] many = absurd (omega (arith, many.listed))
length-stored (k ∷ ks) (c ∷ cs) (r ∷ rs) many = ap (λ n. suc n) (length-stored ks cs rs (many-tail k ks c cs r rs many))

-- the opening with a number
pub stored-at : (ks : List (List ℕ)) (cs : List OpeningCounts) (rs : List (List NextMove)) (at : ℕ) (d : Stored) (k : List ℕ) (c : OpeningCounts) (r : List NextMove) → AreSoMany ks cs rs → at < length ks → get_or (stored_in ks cs rs) at d ≡ (get_or ks at k, opening_in (get_or cs at c) (get_or rs at r))
stored-at [] cs rs at d k c r many lt = absurd (omega (arith, lt))
stored-at (x ∷ ks) [] rs at d k c r many lt = absurd (omega (arith, many.counted))
stored-at (x ∷ ks) (y ∷ cs) [] at d k c r many lt = absurd (omega (arith, many.listed))
stored-at (x ∷ ks) (y ∷ cs) (z ∷ rs) zero d k c r many lt = refl
stored-at (x ∷ ks) (y ∷ cs) (z ∷ rs) (suc at) d k c r many lt = stored-at ks cs rs at d k c r (many-tail x ks y cs z rs many) (omega (arith, lt))

-- what is said of it
pub stored-said : (P : Opening → Type 0) (ks : List (List ℕ)) (cs : List OpeningCounts) (rs : List (List NextMove)) (at : ℕ) (c : OpeningCounts) (r : List NextMove) → IsSaidAt P (stored_in ks cs rs) at → P (opening_in (get_or cs at c) (get_or rs at r))
stored-said P [] cs rs at c r said = absurd said
stored-said P (x ∷ ks) [] rs at c r said = absurd said
stored-said P (x ∷ ks) (y ∷ cs) [] at c r said = absurd said
stored-said P (x ∷ ks) (y ∷ cs) (z ∷ rs) zero c r said = said
stored-said P (x ∷ ks) (y ∷ cs) (z ∷ rs) (suc at) c r said = stored-said P ks cs rs at c r said

-- ---- an opening changes

module _ (change : Opening → Opening) where
  pub stored-changed : (ks : List (List ℕ)) (cs : List OpeningCounts) (rs : List (List NextMove)) (at : ℕ) (c new : OpeningCounts) (r more : List NextMove) → AreSoMany ks cs rs → opening_in new more ≡ change (opening_in (get_or cs at c) (get_or rs at r)) → stored_in ks (set cs at new) (set rs at more) ≡ changed change (stored_in ks cs rs) at
  stored-changed [] cs rs at c new r more many is = refl
  stored-changed (x ∷ ks) [] rs at c new r more many is = absurd (omega (arith, many.counted))
  stored-changed (x ∷ ks) (y ∷ cs) [] at c new r more many is = absurd (omega (arith, many.listed))
  stored-changed (x ∷ ks) (y ∷ cs) (z ∷ rs) zero c new r more many is = ap (λ (o : Opening). (x, o) ∷ stored_in ks cs rs) is
  stored-changed (x ∷ ks) (y ∷ cs) (z ∷ rs) (suc at) c new r more many is =
      ap (λ (es : List Stored). (x, opening_in y z) ∷ es) (stored-changed ks cs rs at c new r more (many-tail x ks y cs z rs many) is)

  -- where its rows stay
  pub stored-counted : (ks : List (List ℕ)) (cs : List OpeningCounts) (rs : List (List NextMove)) (at : ℕ) (c new : OpeningCounts) (r : List NextMove) → AreSoMany ks cs rs → opening_in new (get_or rs at r) ≡ change (opening_in (get_or cs at c) (get_or rs at r)) → stored_in ks (set cs at new) rs ≡ changed change (stored_in ks cs rs) at
  stored-counted [] cs rs at c new r many is = refl
  stored-counted (x ∷ ks) [] rs at c new r many is = absurd (omega (arith, many.counted))
  stored-counted (x ∷ ks) (y ∷ cs) [] at c new r many is = absurd (omega (arith, many.listed))
  stored-counted (x ∷ ks) (y ∷ cs) (z ∷ rs) zero c new r many is = ap (λ (o : Opening). (x, o) ∷ stored_in ks cs rs) is
  stored-counted (x ∷ ks) (y ∷ cs) (z ∷ rs) (suc at) c new r many is =
      ap (λ (es : List Stored). (x, opening_in y z) ∷ es) (stored-counted ks cs rs at c new r (many-tail x ks y cs z rs many) is)

  -- where its counts stay
  pub stored-listed : (ks : List (List ℕ)) (cs : List OpeningCounts) (rs : List (List NextMove)) (at : ℕ) (c : OpeningCounts) (r more : List NextMove) → AreSoMany ks cs rs → opening_in (get_or cs at c) more ≡ change (opening_in (get_or cs at c) (get_or rs at r)) → stored_in ks cs (set rs at more) ≡ changed change (stored_in ks cs rs) at
  stored-listed [] cs rs at c r more many is = refl
  stored-listed (x ∷ ks) [] rs at c r more many is = absurd (omega (arith, many.counted))
  stored-listed (x ∷ ks) (y ∷ cs) [] at c r more many is = absurd (omega (arith, many.listed))
  stored-listed (x ∷ ks) (y ∷ cs) (z ∷ rs) zero c r more many is = ap (λ (o : Opening). (x, o) ∷ stored_in ks cs rs) is
  stored-listed (x ∷ ks) (y ∷ cs) (z ∷ rs) (suc at) c r more many is =
      ap (λ (es : List Stored). (x, opening_in y z) ∷ es) (stored-listed ks cs rs at c r more (many-tail x ks y cs z rs many) is)

-- ---- an opening is found or begun

module _ (words : List ℕ) where
  -- one that is there
  pub keys-there : (ks : List (List ℕ)) → number_of words ks < length ks → length (with_key ks words) ≡ length ks
  keys-there [] lt = absurd (omega (arith, lt))
  keys-there (k ∷ ks) lt = by (pointwise nat_eq words k) lt (keys-there ks)
    where
      by : (b : Bool) → cond b 0 (suc (number_of words ks)) < suc (length ks) → (number_of words ks < length ks → length (with_key ks words) ≡ length ks) → length (cond b (k ∷ ks) (k ∷ with_key ks words)) ≡ suc (length ks)
      by true lt rest = refl
      by false lt rest = ap (λ n. suc n) (rest (omega (arith, lt)))

  pub stored-there : (none : Opening) (ks : List (List ℕ)) (cs : List OpeningCounts) (rs : List (List NextMove)) → AreSoMany ks cs rs → number_of words ks < length ks → stored_in (with_key ks words) cs rs ≡ begun (stored_in ks cs rs) words none
  stored-there none [] cs rs many lt = absurd (omega (arith, lt))
  stored-there none (k ∷ ks) [] rs many lt = absurd (omega (arith, many.counted))
  stored-there none (k ∷ ks) (c ∷ cs) [] many lt = absurd (omega (arith, many.listed))
  stored-there none (k ∷ ks) (c ∷ cs) (r ∷ rs) many lt = by (pointwise nat_eq words k) lt (stored-there none ks cs rs (many-tail k ks c cs r rs many))
    where
      by : (b : Bool) → cond b 0 (suc (number_of words ks)) < suc (length ks) → (number_of words ks < length ks → stored_in (with_key ks words) cs rs ≡ begun (stored_in ks cs rs) words none)
          → stored_in (cond b (k ∷ ks) (k ∷ with_key ks words)) (c ∷ cs) (r ∷ rs) ≡ cond b ((k, opening_in c r) ∷ stored_in ks cs rs) ((k, opening_in c r) ∷ begun (stored_in ks cs rs) words none)
      by true lt rest = refl
      by false lt rest = ap (λ (es : List Stored). (k, opening_in c r) ∷ es) (rest (omega (arith, lt)))

  -- one that isn't
  pub keys-begun : (ks : List (List ℕ)) → length ks ≤ number_of words ks → length (with_key ks words) ≡ length ks + 1
  keys-begun [] le = refl
  keys-begun (k ∷ ks) le = by (pointwise nat_eq words k) le (keys-begun ks)
    where
      by : (b : Bool) → suc (length ks) ≤ cond b 0 (suc (number_of words ks)) → (length ks ≤ number_of words ks → length (with_key ks words) ≡ length ks + 1) → length (cond b (k ∷ ks) (k ∷ with_key ks words)) ≡ suc (length ks) + 1
      by true le rest = absurd (omega (arith, le))
      by false le rest = omega (arith, rest (omega (arith, le)))

  pub stored-begun : (c : OpeningCounts) (r : List NextMove) (ks : List (List ℕ)) (cs : List OpeningCounts) (rs : List (List NextMove)) → AreSoMany ks cs rs → length ks ≤ number_of words ks → stored_in (with_key ks words) (cs ++ c ∷ []) (rs ++ r ∷ []) ≡ begun (stored_in ks cs rs) words (opening_in c r)
  stored-begun c r [] [] [] many le = refl
  stored-begun c r [] (y ∷ cs) rs many le = absurd (omega (arith, many.counted))
  stored-begun c r [] [] (z ∷ rs) many le = absurd (omega (arith, many.listed))
  stored-begun c r (k ∷ ks) [] rs many le = absurd (omega (arith, many.counted))
  stored-begun c r (k ∷ ks) (y ∷ cs) [] many le = absurd (omega (arith, many.listed))
  stored-begun c r (k ∷ ks) (y ∷ cs) (z ∷ rs) many le = by (pointwise nat_eq words k) le (stored-begun c r ks cs rs (many-tail k ks y cs z rs many))
    where
      by : (b : Bool) → suc (length ks) ≤ cond b 0 (suc (number_of words ks)) → (length ks ≤ number_of words ks → stored_in (with_key ks words) (cs ++ c ∷ []) (rs ++ r ∷ []) ≡ begun (stored_in ks cs rs) words (opening_in c r))
          → stored_in (cond b (k ∷ ks) (k ∷ with_key ks words)) (y ∷ cs ++ c ∷ []) (z ∷ rs ++ r ∷ []) ≡ cond b ((k, opening_in y z) ∷ stored_in ks cs rs) ((k, opening_in y z) ∷ begun (stored_in ks cs rs) words (opening_in c r))
      by true le rest = absurd (omega (arith, le))
      by false le rest = ap (λ (es : List Stored). (k, opening_in y z) ∷ es) (rest (omega (arith, le)))

  -- its number
  pub key-begun : (none : Opening) (ks : List (List ℕ)) (cs : List OpeningCounts) (rs : List (List NextMove)) → AreSoMany ks cs rs → IsKeyAt (begun (stored_in ks cs rs) words none) (number_of words ks) words
  key-begun none [] cs rs many = refl
  key-begun none (k ∷ ks) [] rs many = absurd (omega (arith, many.counted))
  key-begun none (k ∷ ks) (c ∷ cs) [] many = absurd (omega (arith, many.listed))
  key-begun none (k ∷ ks) (c ∷ cs) (r ∷ rs) many = by (pointwise nat_eq words k) refl (key-begun none ks cs rs (many-tail k ks c cs r rs many))
    where
      by : (b : Bool) → pointwise nat_eq words k ≡ b → IsKeyAt (begun (stored_in ks cs rs) words none) (number_of words ks) words
          → IsKeyAt (cond b ((k, opening_in c r) ∷ stored_in ks cs rs) ((k, opening_in c r) ∷ begun (stored_in ks cs rs) words none)) (cond b 0 (suc (number_of words ks))) words
      by true t rest = sym ((bytes_eq-Decides words k).0 t)
      by false f rest = (λ e. false≢true (sym f ∙ (bytes_eq-Decides words k).1 (sym e)), rest)
