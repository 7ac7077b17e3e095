-- The order of rows, and rows that are put in or set.
use Rattle.std.proofs.Common.{◌≡◌, ℕ, ◌+◌, ◌-◌, ◌<◌, ◌≤◌, ◌⊎◌, inl, inr, List, length, get_or, set, refl, sym, ap, subst, ◌∙◌, arith}
use Rattle.std.specs.Prelude.{AllPairs}
use Rattle.std.specs.List.{insert}
use Rattle.std.proofs.lemmas.Bool.{cases_eq, cases_lt}
use Rattle.std.proofs.lemmas.List.{get_or_default, get_or-set_other, get_or-set_same, length-set}
use Rattle.std.proofs.lemmas.List.Edits.{get_or-insert_above, get_or-insert_at, get_or-insert_below, length-insert}
use Rattle.kb_geometry.specs.declared.stone.Colour.{Colour}
use Rattle.kb_geometry.specs.declared.stone.Colour.TheVariants as colour
use Rattle.continuation_table.specs.declared.table.Row.{Row}
use Rattle.continuation_table.specs.Counting.{HaveSameNext, IsPlaceIn}
use Rattle.continuation_table.specs.Table.{IsRowBefore}

pub before_trans : (a b c : Row) → IsRowBefore a b → IsRowBefore b c → IsRowBefore a c
before_trans a b c (inl (black, white)) (inl (too, _)) = let no : colour.White ≡ colour.Black = sym white ∙ too in absurd cc
before_trans a b c (inl (black, white)) (inr (same, _)) = inl (black, sym same ∙ white)
before_trans a b c (inr (same, _)) (inl (black, white)) = inl (same ∙ black, white)
before_trans a b c (inr (same, inl y)) (inr (too, inl z)) = inr (same ∙ too, inl (omega arith))
before_trans a b c (inr (same, inl y)) (inr (too, inr z)) = inr (same ∙ too, inl (omega (arith, z.0)))
before_trans a b c (inr (same, inr y)) (inr (too, inl z)) = inr (same ∙ too, inl (omega (arith, y.0)))
before_trans a b c (inr (same, inr y)) (inr (too, inr z)) = inr (same ∙ too, inr (y.0 ∙ z.0, omega (arith, y.1, z.1)))

pub before_irreflexive : (a : Row) → ¬ IsRowBefore a a
before_irreflexive a (inl (black, white)) = let no : colour.White ≡ colour.Black = sym white ∙ black in absurd cc
before_irreflexive a (inr (same, inl y)) = absurd (omega arith)
before_irreflexive a (inr (same, inr y)) = absurd (omega (arith, y.1))

-- the order is that of the continuations
pub before_by_next : (a b c d : Row) → HaveSameNext a c → HaveSameNext b d → IsRowBefore a b → IsRowBefore c d
before_by_next a b c d s t (inl (black, white)) = inl (sym s.0 ∙ black, sym t.0 ∙ white)
before_by_next a b c d s t (inr (same, inl y)) = inr (sym s.0 ∙ same ∙ t.0, inl (omega (arith, s.2, t.2)))
before_by_next a b c d s t (inr (same, inr y)) = inr (sym s.0 ∙ same ∙ t.0, inr (sym s.2 ∙ y.0 ∙ t.2, omega (arith, s.1, t.1, y.1)))

pub same_self : (a : Row) → HaveSameNext a a
same_self a = (refl, refl, refl)

pub same_back : (a b : Row) → HaveSameNext a b → HaveSameNext b a
same_back a b s = (sym s.0, sym s.1, sym s.2)

abbrev IsKeyBefore : Colour → ℕ → ℕ → Colour → ℕ → ℕ → Type 0
IsKeyBefore s x y t u v = ((s ≡ colour.Black) × (t ≡ colour.White)) ⊎ ((s ≡ t) × ((y < v) ⊎ ((y ≡ v) × (x < u))))

point_after : (s : Colour) (x y u v : ℕ) → ¬ IsKeyBefore s x y s u v → ¬ ((s ≡ s) × (x ≡ u) × (y ≡ v)) → IsKeyBefore s u v s x y
point_after s x y u v not differ =
    elim (cases_lt v y) [
      | inl below ↦ inr (refl, inl below)
      | inr above ↦ elim (cases_eq y v) [
        | inr other ↦ absurd (not (inr (refl, inl (omega arith))))
        | inl same ↦ elim (cases_lt u x) [
          | inl right ↦ inr (refl, inr (sym same, right))
          | inr left ↦ elim (cases_eq x u) [
            | inl one ↦ absurd (differ (refl, one, same))
            | inr apart ↦ absurd (not (inr (refl, inr (same, omega arith))))
          ]
        ]
      ]
    ]

key_after : (s : Colour) (x y : ℕ) (t : Colour) (u v : ℕ) → ¬ IsKeyBefore s x y t u v → ¬ ((s ≡ t) × (x ≡ u) × (y ≡ v)) → IsKeyBefore t u v s x y
key_after colour.Black x y colour.Black u v not differ = point_after colour.Black x y u v not differ
key_after colour.White x y colour.White u v not differ = point_after colour.White x y u v not differ
key_after colour.Black x y colour.White u v not differ = absurd (not (inl (refl, refl)))
key_after colour.White x y colour.Black u v not differ = inl (refl, refl)

-- of two rows of different continuations one comes first
pub row_after : (a b : Row) → ¬ IsRowBefore a b → ¬ HaveSameNext a b → IsRowBefore b a
row_after a b not differ = key_after a.colour a.x a.y b.colour b.x b.y not differ

-- ---- the place of a new row

module _ (rows : List Row) (ordered : AllPairs IsRowBefore rows) (new : Row) (middle : ℕ) (e : Row) where
  -- where one row comes before it, so do those in front
  pub before_until : middle < length rows → IsRowBefore (get_or rows middle e) new → (k : ℕ) (d : Row) → k ≤ middle → IsRowBefore (get_or rows k d) new
  before_until lt before k d le =
      let here : IsRowBefore (get_or rows middle d) new = subst (λ (r : Row). IsRowBefore r new) (get_or_default rows middle e d lt) before in
      elim (cases_lt k middle) [
        | inl less ↦ before_trans (get_or rows k d) (get_or rows middle d) new (ordered k middle d less lt) here
        | inr same ↦ let there : middle ≡ k = omega arith in subst (λ (j : ℕ). IsRowBefore (get_or rows j d) new) there here
      ]

-- where one doesn't, neither do those behind
pub not_before_from : (rows : List Row) → AllPairs IsRowBefore rows → (new : Row) (middle : ℕ) (e : Row) → ¬ IsRowBefore (get_or rows middle e) new → (k : ℕ) (d : Row) → middle ≤ k → k < length rows → ¬ IsRowBefore (get_or rows k d) new
not_before_from rows ordered new middle e not k d le lt before = not (before_until rows ordered new k d lt before middle e le)

module _ (rows : List Row) (ordered : AllPairs IsRowBefore rows) (new : Row) (i : ℕ) (place : IsPlaceIn rows new i) (absent : (d : Row) → i < length rows → ¬ HaveSameNext (get_or rows i d) new) where
  -- no row is of its continuation
  pub no_same : (k : ℕ) (d : Row) → k < length rows → ¬ HaveSameNext (get_or rows k d) new
  no_same k d lt same =
      elim (cases_lt k i) [
        | inl earlier ↦ before_irreflexive new (before_by_next (get_or rows k d) new new new same (same_self new) (place.before k d earlier))
        | inr later ↦ elim (cases_eq k i) [
          | inl here ↦ absent d (omega arith) (subst (λ (j : ℕ). HaveSameNext (get_or rows j d) new) here same)
          | inr behind ↦
              place.rest i d (omega arith) (omega arith)
              (before_by_next (get_or rows i d) (get_or rows k d) (get_or rows i d) new (same_self (get_or rows i d)) same (ordered i k d (omega arith) lt))
        ]
      ]

  pub new_before : (k : ℕ) (d : Row) → i ≤ k → k < length rows → IsRowBefore new (get_or rows k d)
  new_before k d le lt = row_after (get_or rows k d) new (place.rest k d le lt) (no_same k d lt)

-- ---- lists in order

-- of two rows of one continuation there is only one
pub only_one : (rows : List Row) → AllPairs IsRowBefore rows → (new : Row) (j k : ℕ) (d e : Row) → j < length rows → k < length rows → HaveSameNext (get_or rows j d) new → HaveSameNext (get_or rows k e) new → j ≡ k
only_one rows ordered new j k d e in_range lt one two =
    let two_d : HaveSameNext (get_or rows k d) new = subst (λ (r : Row). HaveSameNext r new) (get_or_default rows k e d lt) two in
    elim (cases_lt j k) [
      | inl less ↦ absurd (before_irreflexive new (before_by_next (get_or rows j d) (get_or rows k d) new new one two_d (ordered j k d less lt)))
      | inr le ↦ elim (cases_eq j k) [
        | inl same ↦ same
        | inr ne ↦ absurd (before_irreflexive new (before_by_next (get_or rows k d) (get_or rows j d) new new two_d one (ordered k j d (omega arith) in_range)))
      ]
    ]

module _ (rows : List Row) (ordered : AllPairs IsRowBefore rows) (i : ℕ) (new : Row) where
  pub set_same : (d : Row) → i < length rows → HaveSameNext (get_or rows i d) new → (k : ℕ) (e : Row) → k < length rows → HaveSameNext (get_or rows k e) (get_or (set rows i new) k e)
  set_same d lt same k e in_range =
      elim (cases_eq k i) [
        | inl here ↦
            subst (λ (j : ℕ). HaveSameNext (get_or rows j e) (get_or (set rows i new) j e)) (sym here)
            (subst (HaveSameNext (get_or rows i e)) (sym (get_or-set_same rows i new e lt)) (subst (λ (r : Row). HaveSameNext r new) (get_or_default rows i d e lt) same))
        | inr other ↦ subst (HaveSameNext (get_or rows k e)) (sym (get_or-set_other rows i k new e other)) (same_self (get_or rows k e))
      ]

  -- a row that is set, to one of the same continuation
  pub ordered_set : (d : Row) → i < length rows → HaveSameNext (get_or rows i d) new → AllPairs IsRowBefore (set rows i new)
  ordered_set d lt same j k e less in_range =
      let within : k < length rows = omega (arith, length-set rows i new) in
      before_by_next (get_or rows j e) (get_or rows k e) (get_or (set rows i new) j e) (get_or (set rows i new) k e)
      (set_same d lt same j e (omega arith)) (set_same d lt same k e within) (ordered j k e less within)

  module _ (le : i ≤ length rows) where
    -- what stands at a number once the row is put in
    pub at_below : (k : ℕ) (e : Row) → k < i → get_or (insert rows i new) k e ≡ get_or rows k e
    at_below k e lt = get_or-insert_below rows i new e k lt le

    pub at_above : (k : ℕ) (e : Row) → i < k → get_or (insert rows i new) k e ≡ get_or rows (k - 1) e
    at_above k e lt =
        let there : k ≡ (k - 1) + 1 = omega arith in
        ap (λ (n : ℕ). get_or (insert rows i new) n e) there ∙ get_or-insert_above rows i new e (k - 1) (omega arith) le

    pub at_place : (k : ℕ) (e : Row) → k ≡ i → get_or (insert rows i new) k e ≡ new
    at_place k e here = ap (λ (n : ℕ). get_or (insert rows i new) n e) here ∙ get_or-insert_at rows i new e le

    -- a row that is put in at its place
    pub ordered_insert : ((k : ℕ) (d : Row) → k < i → IsRowBefore (get_or rows k d) new) → ((k : ℕ) (d : Row) → i ≤ k → k < length rows → IsRowBefore new (get_or rows k d)) → AllPairs IsRowBefore (insert rows i new)
    ordered_insert before after j k e less in_range =
        let within : k < length rows + 1 = omega (arith, length-insert rows i new le) in
        elim (cases_lt k i) [
          | inl low ↦ subst (λ (r : Row). IsRowBefore r (get_or (insert rows i new) k e)) (sym (at_below j e (omega arith))) (subst (IsRowBefore (get_or rows j e)) (sym (at_below k e low)) (ordered j k e less (omega arith)))
          | inr high ↦ elim (cases_eq k i) [
            | inl here ↦ subst (λ (r : Row). IsRowBefore r (get_or (insert rows i new) k e)) (sym (at_below j e (omega arith))) (subst (IsRowBefore (get_or rows j e)) (sym (at_place k e here)) (before j e (omega arith)))
            | inr behind ↦ subst (IsRowBefore (get_or (insert rows i new) j e)) (sym (at_above k e (omega arith))) (elim (cases_lt j i) [
              | inl lower ↦ subst (λ (r : Row). IsRowBefore r (get_or rows (k - 1) e)) (sym (at_below j e lower)) (ordered j (k - 1) e (omega arith) (omega arith))
              | inr upper ↦ elim (cases_eq j i) [
                | inl there ↦ subst (λ (r : Row). IsRowBefore r (get_or rows (k - 1) e)) (sym (at_place j e there)) (after (k - 1) e (omega arith) (omega arith))
                | inr past ↦ subst (λ (r : Row). IsRowBefore r (get_or rows (k - 1) e)) (sym (at_above j e (omega arith))) (ordered (j - 1) (k - 1) e (omega arith) (omega arith))
              ]
            ])
          ]
        ]
