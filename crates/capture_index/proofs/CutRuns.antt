-- Stretches that are cut at the runs of a point, the latest run first.
use Rattle.kb_geometry.specs.declared.stone.Cell.TheVariants as stone
use Prim.Native.Nat.{min}
use Rattle.std.proofs.Common.{◌≡◌, ℕ, ◌+◌, ◌<◌, ◌≤◌, ◌⊎◌, ◌↔◌, Bool, List, [], ◌∷◌, length, get_or, drop, sym, ◌∙◌, ap, subst, arith, inl, inr, add-one, drop-cons}
use Rattle.std.proofs.Math.Nat.{min-le_left, min-le_right, le-min}
use Rattle.std.proofs.lemmas.Bool.{cases_lt}
use Rattle.std.proofs.lemmas.List.{drop_all, get_or_default}
use Rattle.std.specs.Prelude.{IsTrue}
use Rattle.capture_index.specs.declared.run.Run.{Run}
use Rattle.capture_index.specs.declared.stretch.Stretch.{Stretch}
use Rattle.ready_images.specs.declared.want.Want.{Want}
use Rattle.capture_index.specs.Runs.{AreToldBehind, cell_by}
use Rattle.capture_index.specs.Lists.{IsInFirst}
use Rattle.capture_index.specs.Stretches.{IsIn, IsWithin, is_wanted}
use Rattle.capture_index.proofs.Cells.{cell_by-first, cell_by-rest}

least_of : (next start low n : ℕ) → low ≡ min next start → low ≤ n → n < next → start ≤ n
least_of next start low n e from to =
    elim (cases_lt start next) [
      | inl lt ↦
          let first : start ≤ next = omega arith in
          let self : start ≤ start = omega arith in
          let least : start ≤ min next start = le-min first self in
          omega (arith, e, least)
      | inr ge ↦
          let self : next ≤ next = omega arith in
          let least : next ≤ min next start = le-min self ge in
          absurd (omega (arith, e, least))
    ]

-- A stretch is cut at the first so many runs, which tell of the nodes from next on.
pub record IsCutTo (runs : List Run) (want : Want) (stretch : Stretch) (before : List Stretch) (count next : ℕ) (after : List Stretch) : Type 0 where
  pub nodes_of : (n : ℕ) → IsIn after n ↔ (IsIn before n ⊎ (IsWithin n stretch × (next ≤ n) × IsTrue (is_wanted want (cell_by runs n))))
  pub rest : AreToldBehind runs count next

-- the next run, and those behind it
pub told-step : (runs : List Run) (count node : ℕ) (d : Run) → count < length runs → AreToldBehind runs count node → (n : ℕ) → n < node → cell_by runs n ≡ cell_by (get_or runs count d ∷ drop (count + 1) runs) n
told-step runs count node d lt told n under =
    told n under ∙ ap (λ (rs : List Run). cell_by rs n) (drop-cons runs count d lt ∙ ap (λ (i : ℕ). get_or runs count d ∷ drop i runs) (sym (add-one count)))

-- a run that begins at the node or behind it
pub told-past : (runs : List Run) (count node first : ℕ) (d : Run) → count < length runs → first ≡ (get_or runs count d).first → node ≤ first → AreToldBehind runs count node → AreToldBehind runs (count + 1) node
told-past runs count node first d lt is le told n under =
    told-step runs count node d lt told n under ∙ cell_by-rest (get_or runs count d) (drop (count + 1) runs) n (omega (arith, is))

pub told-sooner : (runs : List Run) (count low node : ℕ) → low ≤ node → AreToldBehind runs count node → AreToldBehind runs count low
told-sooner runs count low node le told n under = told n (omega arith)

module _ (runs : List Run) (want : Want) (stretch : Stretch) (before : List Stretch) where
  -- the runs that are left tell the cells of the stretch
  pub IsCutTo-none : (count : ℕ) → AreToldBehind runs count stretch.to → IsCutTo runs want stretch before count stretch.to before
  IsCutTo-none count told = record {
    nodes_of = λ n. (λ h. inl h, λ h. elim h [ inl there ↦ there | inr (within, behind, is) ↦ absurd (omega (arith, within.1, behind)) ]);
    rest = told;
  }

  module _ (count next : ℕ) (now : List Stretch) (cut : IsCutTo runs want stretch before count next now) (after : List Stretch) (start : ℕ) (wanted : Bool) (pushed : (n : ℕ) → IsIn after n ↔ (IsIn now n ⊎ (IsWithin n stretch × (start ≤ n) × (n < next) × IsTrue wanted))) (cell : (n : ℕ) → start ≤ n → n < next → is_wanted want (cell_by runs n) ≡ wanted) where
    -- the nodes from start on are decided
    pub cut-further : (low : ℕ) → low ≤ next → low ≤ start → ((n : ℕ) → low ≤ n → n < next → start ≤ n) → (n : ℕ) → IsIn after n ↔ (IsIn before n ⊎ (IsWithin n stretch × (low ≤ n) × IsTrue (is_wanted want (cell_by runs n))))
    cut-further low under below least n = (
      λ h. elim ((pushed n).0 h) [
        | inl old ↦ elim ((cut.nodes_of n).0 old) [
          | inl first ↦ inl first
          | inr (within, from, is) ↦ inr (within, omega arith, is)
        ]
        | inr (within, from, to, is) ↦ inr (within, omega arith, cell n from to ∙ is)
      ],
      λ h. elim h [
        | inl first ↦ (pushed n).1 (inl ((cut.nodes_of n).1 (inl first)))
        | inr (within, from, is) ↦ elim (cases_lt n next) [
          | inl to ↦ let from_start = least n from to in (pushed n).1 (inr (within, from_start, to, sym (cell n from_start to) ∙ is))
          | inr behind ↦ (pushed n).1 (inl ((cut.nodes_of n).1 (inr (within, behind, is))))
        ]
      ],
    )

  -- one run more
  pub IsCutTo-more : (count next : ℕ) (now after : List Stretch) (d : Run) (start low : ℕ) (wanted : Bool) → count < length runs → IsCutTo runs want stretch before count next now →
      ((n : ℕ) → IsIn after n ↔ (IsIn now n ⊎ (IsWithin n stretch × (start ≤ n) × (n < next) × IsTrue wanted))) →
      start ≡ (get_or runs count d).first → wanted ≡ is_wanted want (get_or runs count d).cell → low ≡ min next start → IsCutTo runs want stretch before (count + 1) low after
  IsCutTo-more count next now after d start low wanted lt cut pushed first_is wanted_is low_is =
      let r = get_or runs count d in
      let under : low ≤ next = omega (arith, low_is, min-le_left next start) in
      let below : low ≤ start = omega (arith, low_is, min-le_right next start) in
      let least : (n : ℕ) → low ≤ n → n < next → start ≤ n = λ n from to. least_of next start low n low_is from to in
      record {
        nodes_of = cut-further count next now cut after start wanted pushed
            (λ n from to. ap (is_wanted want) (told-step runs count next d lt cut.rest n to ∙ cell_by-first r (drop (count + 1) runs) n (omega (arith, first_is))) ∙ sym wanted_is)
            low under below least;
        rest = told-past runs count low start d lt first_is below (told-sooner runs count low next under cut.rest);
      }

  -- the runs that were passed tell the whole stretch
  pub IsCutTo-end : (count next : ℕ) (after : List Stretch) → next ≤ stretch.from → IsCutTo runs want stretch before count next after → (n : ℕ) → IsIn after n ↔ (IsIn before n ⊎ (IsWithin n stretch × IsTrue (is_wanted want (cell_by runs n))))
  IsCutTo-end count next after le cut n = (
    λ h. elim ((cut.nodes_of n).0 h) [ inl first ↦ inl first | inr (within, from, is) ↦ inr (within, is) ],
    λ h. (cut.nodes_of n).1 (elim h [ inl first ↦ inl first | inr (within, is) ↦ inr (within, omega (arith, le, within.0), is) ]),
  )

  -- before all runs
  pub IsCutTo-all : (next : ℕ) (now after : List Stretch) (count : ℕ) (wanted : Bool) → wanted ≡ is_wanted want stone.Empty → length runs ≤ count → IsCutTo runs want stretch before count next now →
      ((n : ℕ) → IsIn after n ↔ (IsIn now n ⊎ (IsWithin n stretch × (0 ≤ n) × (n < next) × IsTrue wanted))) →
      (n : ℕ) → IsIn after n ↔ (IsIn before n ⊎ (IsWithin n stretch × IsTrue (is_wanted want (cell_by runs n))))
  IsCutTo-all next now after count wanted wanted_is all cut pushed n =
      let whole = cut-further count next now cut after 0 wanted pushed
      (λ m from to. ap (is_wanted want) (cut.rest m to ∙ ap (λ (rs : List Run). cell_by rs m) (drop_all count runs all)) ∙ sym wanted_is)
      0 (omega arith) (omega arith) (λ m from to. omega arith) n in (
        λ h. elim (whole.0 h) [ inl first ↦ inl first | inr (within, from, is) ↦ inr (within, is) ],
        λ h. whole.1 (elim h [ inl first ↦ inl first | inr (within, is) ↦ inr (within, omega arith, is) ]),
      )

-- where all runs were passed
pub told-all : (runs : List Run) (count node : ℕ) → length runs ≤ count → AreToldBehind runs count node → AreToldBehind runs (length runs) node
told-all runs count node all told n under =
    told n under ∙ ap (λ (rs : List Run). cell_by rs n) (drop_all count runs all ∙ sym (drop_all (length runs) runs (omega arith)))

-- ---- all stretches of a list
module _ (stretches : List Stretch) (i : ℕ) (d : Stretch) (n : ℕ) (lt : i < length stretches) where
  first_more : IsInFirst (i + 1) stretches n → IsInFirst i stretches n ⊎ IsWithin n (get_or stretches i d)
  first_more (k, e, below, within) =
      elim (cases_lt k i) [
        | inl before ↦ inl (k, e, before, within)
        | inr last ↦
            let here : k ≡ i = omega arith in
            inr (subst (IsWithin n) (ap (λ (j : ℕ). get_or stretches j e) here ∙ get_or_default stretches i e d lt) within)
      ]

  more_first : IsInFirst i stretches n ⊎ IsWithin n (get_or stretches i d) → IsInFirst (i + 1) stretches n
  more_first (inl (k, e, below, within)) = (k, e, omega arith, within)
  more_first (inr within) = (i, d, omega arith, within)

  pub each-more : (W A B C : Type 0) → C ↔ (B ⊎ (IsWithin n (get_or stretches i d) × W)) → B ↔ (A ⊎ (IsInFirst i stretches n × W)) → C ↔ (A ⊎ (IsInFirst (i + 1) stretches n × W))
  each-more W A B C step before = (
    λ c. elim (step.0 c) [
      | inl b ↦ elim (before.0 b) [
        | inl a ↦ inl a
        | inr (first, w) ↦ inr (more_first (inl first), w)
      ]
      | inr (within, w) ↦ inr (more_first (inr within), w)
    ],
    λ h. elim h [
      | inl a ↦ step.1 (inl (before.1 (inl a)))
      | inr (first, w) ↦ elim (first_more first) [
        | inl old ↦ step.1 (inl (before.1 (inr (old, w))))
        | inr within ↦ step.1 (inr (within, w))
      ]
    ],
  )

pub each-none : (stretches : List Stretch) (n : ℕ) (W A : Type 0) → A ↔ (A ⊎ (IsInFirst 0 stretches n × W))
each-none stretches n W A = (λ a. inl a, λ h. elim h [ inl a ↦ a | inr ((k, e, below, within), w) ↦ absurd (omega (arith, below)) ])

-- a list that was empty, and is exchanged
pub cut-read : (W : Type 0) (now before after spare : List Stretch) (n : ℕ) → now ≡ [] → after ≡ spare → IsIn spare n ↔ (IsIn now n ⊎ (IsIn before n × W)) → IsIn after n ↔ (IsIn before n × W)
cut-read W now before after spare n none e cut = (
  λ h. elim (cut.0 (subst (λ (s : List Stretch). IsIn s n) e h)) [
    | inl (k, d, below, within) ↦ absurd (omega (arith, below, ap length none))
    | inr kept ↦ kept
  ],
  λ h. subst (λ (s : List Stretch). IsIn s n) (sym e) (cut.1 (inr h)),
)
