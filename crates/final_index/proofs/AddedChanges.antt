-- Sets that gain the points of changes, one after another.
use Rattle.std.proofs.Common.{◌≡◌, ◌≢◌, ℕ, ◌+◌, ◌<◌, ◌≤◌, ◌↔◌, ◌⊎◌, List, length, get_or, refl, sym, ◌∙◌, ap, subst, arith, inl, inr}
use Rattle.std.proofs.lemmas.Bool.{cases_lt}
use Rattle.std.proofs.lemmas.List.{get_or_default}
use Rattle.std.specs.Prelude.{Contains}
use Rattle.kb_geometry.specs.declared.stone.Cell.{Cell}
use Rattle.kb_geometry.specs.declared.stone.Cell.TheVariants as cell
use Rattle.kb_geometry.specs.declared.stone.Change.{Change}
use Rattle.capture_board.proofs.Cells.{cases_cell}
use Rattle.final_index.specs.declared.ever_sets.EverSets.{EverSets}
use Rattle.final_index.specs.Ever.{set_of}
use Rattle.final_index.specs.Gathering.{AreAdded, AreUntouched}

-- ---- one point more

-- a set that takes the place of one of the three leaves the others
pub other_than_empty : (sets : EverSets) (set : List ℕ) (c : Cell) → c ≢ cell.Empty → set_of (record { black = sets.black; white = sets.white; empty = set }) c ≡ set_of sets c
other_than_empty sets set cell.Empty ne = absurd (ne refl)
other_than_empty sets set cell.Black ne = refl
other_than_empty sets set cell.White ne = refl

pub other_than_black : (sets : EverSets) (set : List ℕ) (c : Cell) → c ≢ cell.Black → set_of (record { black = set; white = sets.white; empty = sets.empty }) c ≡ set_of sets c
other_than_black sets set cell.Empty ne = refl
other_than_black sets set cell.Black ne = absurd (ne refl)
other_than_black sets set cell.White ne = refl

pub other_than_white : (sets : EverSets) (set : List ℕ) (c : Cell) → c ≢ cell.White → set_of (record { black = sets.black; white = set; empty = sets.empty }) c ≡ set_of sets c
other_than_white sets set cell.Empty ne = refl
other_than_white sets set cell.Black ne = refl
other_than_white sets set cell.White ne = absurd (ne refl)

-- a point more in the set of one cell
module _ (old new : EverSets) (stone variant : Cell) (is : stone ≡ variant) (point : ℕ) (others : (c : Cell) → c ≢ variant → set_of new c ≡ set_of old c) where
  pub inserted_only : ((p : ℕ) → Contains (set_of new variant) p ↔ (Contains (set_of old variant) p ⊎ (p ≡ point))) → (c : Cell) (p : ℕ) → Contains (set_of new c) p ↔ (Contains (set_of old c) p ⊎ ((c ≡ stone) × (p ≡ point)))
  inserted_only inserted c p =
      elim (cases_cell c variant) [
        | inl e ↦
            let r = subst (λ (v : Cell). Contains (set_of new v) p ↔ (Contains (set_of old v) p ⊎ (p ≡ point))) (sym e) (inserted p) in (
              λ h. elim (r.0 h) [ inl there ↦ inl there | inr here ↦ inr (e ∙ sym is, here) ],
              λ h. r.1 (elim h [ inl there ↦ inl there | inr both ↦ inr both.1 ]),
            )
        | inr ne ↦
            let same = others c ne in (
              λ h. inl (subst (λ (ns : List ℕ). Contains ns p) same h),
              λ h. elim h [ inl there ↦ subst (λ (ns : List ℕ). Contains ns p) (sym same) there | inr both ↦ absurd (ne (both.0 ∙ is)) ],
            )
      ]

-- ---- the first changes of a list

-- one of the first changes makes the point this cell
abbrev HasMadeBelow : ℕ → List Change → ℕ → Cell → Type 0
HasMadeBelow end changes p stone = (k : ℕ) × (c : Change) × (k < end) × (k < length changes) × (get_or changes k c ≡ c) × (c.point ≡ p) × (c.new ≡ stone)

-- each set has gained the points that the first changes make its cell
abbrev pub AreAddedBelow : ℕ → EverSets → List Change → EverSets → Type 0
AreAddedBelow end before changes after = (stone : Cell) (p : ℕ) → Contains (set_of after stone) p ↔ (Contains (set_of before stone) p ⊎ HasMadeBelow end changes p stone)

module _ (before : EverSets) (changes : List Change) where
  pub AreAddedBelow-start : AreAddedBelow 0 before changes before
  AreAddedBelow-start stone p = (λ h. inl h, λ h. elim h [ inl there ↦ there | inr made ↦ absurd (omega (arith, made.2)) ])

  module _ (i : ℕ) (after : EverSets) (so_far : AreAddedBelow i before changes after) where
    module _ (d : Change) (lt : i < length changes) (next : EverSets) (inserted : (c : Cell) (p : ℕ) → Contains (set_of next c) p ↔ (Contains (set_of after c) p ⊎ ((c ≡ (get_or changes i d).new) × (p ≡ (get_or changes i d).point)))) where
      here : (k : ℕ) (c : Change) → i ≤ k → k < i + 1 → get_or changes k c ≡ c → get_or changes i d ≡ c
      here k c from below is = let same : k ≡ i = omega arith in get_or_default changes i d c lt ∙ ap (λ j. get_or changes j c) (sym same) ∙ is

      made_now : (stone : Cell) (p : ℕ) → HasMadeBelow (i + 1) changes p stone → Contains (set_of next stone) p
      made_now stone p m =
          elim (cases_lt m.0 i) [
            | inl earlier ↦ (inserted stone p).1 (inl ((so_far stone p).1 (inr (m.0, m.1, earlier, m.3, m.4, m.5, m.6))))
            | inr last ↦
                let is = here m.0 m.1 last m.2 m.4 in
                (inserted stone p).1 (inr (sym m.6 ∙ ap (λ (c : Change). c.new) (sym is), sym m.5 ∙ ap (λ (c : Change). c.point) (sym is)))
          ]

      pub AreAddedBelow-more : AreAddedBelow (i + 1) before changes next
      AreAddedBelow-more stone p = (
        λ h. elim ((inserted stone p).0 h) [
          | inl there ↦ elim ((so_far stone p).0 there) [
            | inl was ↦ inl was
            | inr m ↦ inr (m.0, m.1, omega (arith, m.2), m.3, m.4, m.5, m.6)
          ]
          | inr both ↦ inr (i, get_or changes i d, omega arith, lt, get_or_default changes i (get_or changes i d) d lt, sym both.1, sym both.0)
        ],
        λ h. elim h [
          | inl was ↦ (inserted stone p).1 (inl ((so_far stone p).1 (inl was)))
          | inr m ↦ made_now stone p m
        ],
      )

    pub AreAddedBelow-end : length changes ≤ i → AreAdded before changes after
    AreAddedBelow-end all stone p = (
      λ h. elim ((so_far stone p).0 h) [
        | inl was ↦ inl was
        | inr m ↦ inr (m.0, m.1, m.3, m.4, (m.5, m.6))
      ],
      λ h. elim h [
        | inl was ↦ (so_far stone p).1 (inl was)
        | inr m ↦ (so_far stone p).1 (inr (m.0, m.1, omega (arith, m.2), m.2, m.3, m.4.0, m.4.1))
      ],
    )

-- ---- points that no change touches

-- the numbers below the count on which none of the first changes is
abbrev pub AreUntouchedBelow : ℕ → ℕ → List Change → List ℕ → Type 0
AreUntouchedBelow end count changes points = (p : ℕ) → Contains points p ↔ ((p < count) × ((k : ℕ) (d : Change) → k < end → k < length changes → (get_or changes k d).point ≢ p))

module _ (count : ℕ) (changes : List Change) where
  pub AreUntouchedBelow-start : (points : List ℕ) → ((p : ℕ) → Contains points p ↔ (p < count)) → AreUntouchedBelow 0 count changes points
  AreUntouchedBelow-start points all p = (λ h. ((all p).0 h, λ k d none. absurd (omega arith)), λ h. (all p).1 h.0)

  module _ (i : ℕ) (points : List ℕ) (so_far : AreUntouchedBelow i count changes points) where
    module _ (d : Change) (lt : i < length changes) (next : List ℕ) (removed : (p : ℕ) → Contains next p ↔ (Contains points p × (p ≢ (get_or changes i d).point))) where
      apart_at : (p k : ℕ) (e : Change) → p ≢ (get_or changes i d).point → ((k : ℕ) (d : Change) → k < i → k < length changes → (get_or changes k d).point ≢ p) → k < i + 1 → k < length changes → (get_or changes k e).point ≢ p
      apart_at p k e ne apart below within same =
          elim (cases_lt k i) [
            | inl earlier ↦ apart k e earlier within same
            | inr last ↦
                let at : k ≡ i = omega arith in
                ne (sym same ∙ ap (λ (j : ℕ). (get_or changes j e).point) at ∙ ap (λ (c : Change). c.point) (get_or_default changes i e d lt))
          ]

      pub AreUntouchedBelow-more : AreUntouchedBelow (i + 1) count changes next
      AreUntouchedBelow-more p = (
        λ h.
            let kept = (removed p).0 h in
            let was = (so_far p).0 kept.0 in
            (was.0, λ k e below within. apart_at p k e kept.1 was.1 below within),
        λ h. (removed p).1 ((so_far p).1 (h.0, λ k e below within. h.1 k e (omega arith) within), λ same. h.1 i d (omega arith) lt (sym same)),
      )

    pub AreUntouchedBelow-end : length changes ≤ i → AreUntouched count changes points
    AreUntouchedBelow-end all p = (
      λ h. let was = (so_far p).0 h in (was.0, λ k d within. was.1 k d (omega arith) within),
      λ h. (so_far p).1 (h.0, λ k d below within. h.1 k d within),
    )
