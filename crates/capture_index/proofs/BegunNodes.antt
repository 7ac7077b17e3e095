-- The nodes at which something begins are first nodes of stretches, or at branches inside them.
use Rattle.std.proofs.Common.{Some, Option, ◌≡◌, ℕ, ◌+◌, ◌<◌, ◌≤◌, ◌⊎◌, ◌↔◌, List, [], ◌∷◌, ◌++◌, length, get_or, refl, sym, ◌∙◌, ap, subst, arith, inl, inr}
use Rattle.std.proofs.lemmas.Bool.{cases_eq, cases_lt}
use Rattle.std.proofs.lemmas.List.{get_or_append_left, get_or_push, length_push}
use Rattle.std.specs.Prelude.{Contains}
use Rattle.capture_index.specs.declared.run.Branch.{Branch}
use Rattle.capture_index.specs.declared.stretch.Stretch.{Stretch}
use Rattle.capture_index.specs.Begins.{AreFalling, BeginsFor, IsBehindTo}
use Rattle.capture_index.specs.Branches.{AreAscending, IsFirstAt, branch_parent, parent_by}
use Rattle.capture_index.specs.Lists.{IsInFirst}
use Rattle.capture_index.specs.Stretches.{AreApart, IsIn, IsOutside, IsWithin}
use Rattle.capture_index.proofs.Branchings.{branch_parent-none, cases_branch, parent-at, parent_by-some}

-- ---- one node more
contains-push : (xs : List ℕ) (y x : ℕ) → Contains (xs ++ y ∷ []) x ↔ (Contains xs x ⊎ (y ≡ x))
contains-push xs y x = (
  λ (k, lt, is). elim (cases_lt k (length xs)) [
    | inl before ↦ inl (k, before, sym (get_or_append_left xs (y ∷ []) x k before) ∙ is)
    | inr last ↦ let here : length xs ≡ k = omega (arith, lt, length_push xs y) in inr (sym (get_or_push xs y x k here) ∙ is)
  ],
  λ h. elim h [
    | inl (k, lt, is) ↦ (k, omega (arith, length_push xs y), get_or_append_left xs (y ∷ []) x k lt ∙ is)
    | inr e ↦ (length xs, omega (arith, length_push xs y), get_or_push xs y x (length xs) refl ∙ e)
  ],
)

pub pushed-begun : (old new : List ℕ) (node : ℕ) (B : Type 0) → new ≡ old ++ node ∷ [] → B → (x : ℕ) → Contains new x ↔ (Contains old x ⊎ ((x ≡ node) × B))
pushed-begun old new node B e b x =
    let push = contains-push old node x in (
      λ h. elim (push.0 (subst (λ (ns : List ℕ). Contains ns x) e h)) [ inl there ↦ inl there | inr is ↦ inr (sym is, b) ],
      λ h. subst (λ (ns : List ℕ). Contains ns x) (sym e) (push.1 (elim h [ inl there ↦ inl there | inr (is, b') ↦ inr (sym is) ])),
    )

-- ---- stretches that fall
pub falling-apart : (most : ℕ) (stretches : List Stretch) → AreApart 0 most stretches → AreFalling stretches
falling-apart most stretches apart = record { some = λ k d lt. (apart.each k d lt).1; falling = apart.falling }

-- ---- the branches behind the first node of a stretch
module _ (branches : List Branch) (stretches : List Stretch) (stretch : Stretch) where
  pub behind-none : (first x : ℕ) (A : Type 0) → IsFirstAt branches (stretch.from + 1) first → A ↔ (A ⊎ IsBehindTo branches stretches stretch first x)
  behind-none first x A at = (
    λ a. inl a,
    λ h. elim h [
      | inl a ↦ a
      | inr (k, d, lt, is, from, to, out) ↦ absurd (omega (arith, at.before k d lt, is, from))
    ],
  )

  pub behind-more : (i x node parent : ℕ) (b : Branch) (A Now New : Type 0) → i < length branches → ((d : Branch) → b ≡ get_or branches i d) → node ≡ b.node → parent ≡ b.parent → stretch.from < b.node → b.node < stretch.to →
      Now ↔ (A ⊎ IsBehindTo branches stretches stretch i x) → New ↔ (Now ⊎ ((x ≡ node) × IsOutside stretches (Some parent))) → New ↔ (A ⊎ IsBehindTo branches stretches stretch (i + 1) x)
  behind-more i x node parent b A Now New lt is at up from to before step = (
    λ h. elim (step.0 h) [
      | inl now ↦ elim (before.0 now) [ inl a ↦ inl a | inr (k, d, less, e, f, t, out) ↦ inr (k, d, omega (arith, less), e, f, t, out) ]
      | inr (e, out) ↦
          let here : b.node ≡ x = sym at ∙ sym e in
          inr (
            i,
            b,
            omega arith,
            sym (ap (λ (c : Branch). c.node) (is b)) ∙ here,
            omega (arith, from, here),
            omega (arith, to, here),
            subst (λ (m : ℕ). IsOutside stretches (Some m)) (up ∙ ap (λ (c : Branch). c.parent) (is b)) out,
          )
    ],
    λ h. elim h [
      | inl a ↦ step.1 (inl (before.1 (inl a)))
      | inr (k, d, less, e, f, t, out) ↦ elim (cases_lt k i) [
        | inl earlier ↦ step.1 (inl (before.1 (inr (k, d, earlier, e, f, t, out))))
        | inr last ↦
            let here : i ≡ k = omega (arith, less, last) in
            let read : get_or branches k d ≡ b = ap (λ (j : ℕ). get_or branches j d) (sym here) ∙ sym (is d) in
            step.1 (inr (sym e ∙ ap (λ (c : Branch). c.node) read ∙ sym at, subst (λ (m : ℕ). IsOutside stretches (Some m)) (ap (λ (c : Branch). c.parent) read ∙ sym up) out))
      ]
    ],
  )

  -- no later branch is inside
  pub behind-past : (i x : ℕ) (A Now : Type 0) → ((k : ℕ) (d : Branch) → i ≤ k → k < length branches → stretch.to ≤ (get_or branches k d).node) → i ≤ length branches → Now ↔ (A ⊎ IsBehindTo branches stretches stretch i x) → Now ↔ (A ⊎ IsBehindTo branches stretches stretch (length branches) x)
  behind-past i x A Now past most told = (
    λ h. elim (told.0 h) [ inl a ↦ inl a | inr (k, d, less, e, f, t, out) ↦ inr (k, d, omega (arith, less, most), e, f, t, out) ],
    λ h. told.1 (elim h [
      | inl a ↦ inl a
      | inr (k, d, less, e, f, t, out) ↦ elim (cases_lt k i) [
        | inl earlier ↦ inr (k, d, earlier, e, f, t, out)
        | inr later ↦ absurd (omega (arith, past k d later less, e, t))
      ]
    ]),
  )

-- branches from one on are at nodes behind it
pub later-branches : (branches : List Branch) (i : ℕ) (b : Branch) (to : ℕ) → AreAscending branches → ((d : Branch) → b ≡ get_or branches i d) → to ≤ b.node → (k : ℕ) (d : Branch) → i ≤ k → k < length branches → to ≤ (get_or branches k d).node
later-branches branches i b to up is le k d from lt = elim (cases_eq i k) [
  | inl same ↦
      let read : b ≡ get_or branches k d = is d ∙ ap (λ (j : ℕ). get_or branches j d) same in
      omega (arith, le, ap (λ (c : Branch). c.node) read)
  | inr other ↦ omega (arith, le, up i k b d (omega arith) lt, ap (λ (c : Branch). c.node) (is b))
]

-- ---- one stretch
module _ (branches : List Branch) (stretches : List Stretch) (stretch : Stretch) (up : AreAscending branches) (one : Contains stretches stretch) (some : stretch.from < stretch.to) where
  inside-one : (x : ℕ) → IsWithin x stretch → IsIn stretches x
  inside-one x within = let (k, lt, is) = one in (k, stretch, lt, subst (IsWithin x) (sym is) within)

  from-behind : (x : ℕ) → IsBehindTo branches stretches stretch (length branches) x → BeginsFor branches stretches x × IsWithin x stretch
  from-behind x (k, d, lt, at, from, to, out) =
      let within : IsWithin x stretch = (omega (arith, from), to) in (
        record { inside = inside-one x within; first = subst (IsOutside stretches) (parent-at branches x k d (get_or branches k d).parent (omega (arith, from)) up lt at refl) out },
        within,
      )

  to-behind : (x : ℕ) → BeginsFor branches stretches x → IsWithin x stretch → stretch.from < x → IsBehindTo branches stretches stretch (length branches) x
  to-behind x b within from =
      let first : IsOutside stretches (Some (branch_parent branches x)) = subst (IsOutside stretches) (parent_by-some branches x (omega (arith, from))) b.first in
      elim (cases_branch branches x) [
        | inl (k, d, lt, at, is) ↦ (k, d, lt, at, from, within.1, subst (λ (m : ℕ). IsOutside stretches (Some m)) (sym is) first)
        | inr none ↦ absurd (first (inside-one (branch_parent branches x) (omega (arith, branch_parent-none branches x none, from), omega (arith, branch_parent-none branches x none, within.1))))
      ]

  pub stretch-begun : (x : ℕ) (parent : Option ℕ) (Old Mid New : Type 0) → parent ≡ parent_by branches stretch.from → Mid ↔ (Old ⊎ ((x ≡ stretch.from) × IsOutside stretches parent)) → New ↔ (Mid ⊎ IsBehindTo branches stretches stretch (length branches) x) →
      New ↔ (Old ⊎ (BeginsFor branches stretches x × IsWithin x stretch))
  stretch-begun x parent Old Mid New is first behind = (
    λ h. elim (behind.0 h) [
      | inl mid ↦ elim (first.0 mid) [
        | inl old ↦ inl old
        | inr (e, out) ↦
            let within : IsWithin x stretch = (omega (arith, e), omega (arith, e, some)) in
            inr (record { inside = inside-one x within; first = subst (IsOutside stretches) (is ∙ ap (parent_by branches) (sym e)) out }, within)
      ]
      | inr later ↦ inr (from-behind x later)
    ],
    λ h. elim h [
      | inl old ↦ behind.1 (inl (first.1 (inl old)))
      | inr (b, within) ↦ elim (cases_eq x stretch.from) [
        | inl e ↦ behind.1 (inl (first.1 (inr (e, subst (IsOutside stretches) (ap (parent_by branches) e ∙ sym is) b.first))))
        | inr ne ↦ behind.1 (inr (to-behind x b within (omega (arith, within.0, ne))))
      ]
    ],
  )

-- ---- one stretch more
module _ (branches : List Branch) (stretches : List Stretch) (x : ℕ) (Old : Type 0) where
  -- what begins in the first so many stretches
  abbrev pub BeginsInFirst : ℕ → Type 0
  BeginsInFirst count = BeginsFor branches stretches x × IsInFirst count stretches x

  pub begun-start : Old ↔ (Old ⊎ BeginsInFirst 0)
  begun-start = (λ a. inl a, λ h. elim h [ inl a ↦ a | inr (b, (k, d, lt, inside)) ↦ absurd (omega (arith, lt)) ])

  pub begun-more : (i : ℕ) (s : Stretch) (Now New : Type 0) → i < length stretches → ((d : Stretch) → s ≡ get_or stretches i d) → Now ↔ (Old ⊎ BeginsInFirst i) → New ↔ (Now ⊎ (BeginsFor branches stretches x × IsWithin x s)) → New ↔ (Old ⊎ BeginsInFirst (i + 1))
  begun-more i s Now New lt is before step = (
    λ h. elim (step.0 h) [
      | inl now ↦ elim (before.0 now) [ inl a ↦ inl a | inr (b, (k, d, less, inside)) ↦ inr (b, (k, d, omega (arith, less), inside)) ]
      | inr (b, within) ↦ inr (b, (i, s, omega arith, subst (IsWithin x) (is s) within))
    ],
    λ h. elim h [
      | inl a ↦ step.1 (inl (before.1 (inl a)))
      | inr (b, (k, d, less, inside)) ↦ elim (cases_lt k i) [
        | inl earlier ↦ step.1 (inl (before.1 (inr (b, (k, d, earlier, inside)))))
        | inr last ↦
            let here : k ≡ i = omega (arith, less, last) in
            step.1 (inr (b, subst (IsWithin x) (ap (λ (j : ℕ). get_or stretches j d) here ∙ sym (is d)) inside))
      ]
    ],
  )

  pub begun-end : (i : ℕ) (Now : Type 0) → i ≡ length stretches → Now ↔ (Old ⊎ BeginsInFirst i) → Now ↔ (Old ⊎ BeginsFor branches stretches x)
  begun-end i Now all told = (
    λ h. elim (told.0 h) [ inl a ↦ inl a | inr (b, first) ↦ inr b ],
    λ h. told.1 (elim h [
      | inl a ↦ inl a
      | inr b ↦ let (k, d, lt, inside) = b.inside in inr (b, (k, d, omega (arith, lt, all), inside))
    ]),
  )
