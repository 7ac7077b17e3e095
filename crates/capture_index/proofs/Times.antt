-- What the words of points tell.
use Rattle.std.proofs.Common.{◌≡◌, ℕ, ◌+◌, ◌-◌, ◌*◌, ◌/◌, ◌%◌, ◌<◌, ◌≤◌, ◌↔◌, ◌⊎◌, ◌==◌, Bool, true, false, cond, List, [], ◌∷◌, sym, ◌∙◌, ap, subst, refl, arith, inl, inr}
use Prim.Native.Nat.{max, min}
use Rattle.std.proofs.Math.Nat.{le-min, min-le_left, min-le_right}
use Rattle.std.proofs.lemmas.Bool.{cases_Bool, cases_lt, false_from_ne_true, false≢true, le-leb, leb-true}
use Rattle.std.specs.Prelude.{IsTrue, nat_le, not, if◌then◌else◌}
use Rattle.kb_geometry.specs.declared.stone.Colour.{Colour}
use Rattle.kb_geometry.specs.declared.stone.Colour.TheVariants as colour
use Rattle.kb_geometry.specs.declared.stone.Cell.TheVariants as stone
use Rattle.kb_geometry.specs.Capture.{stone_of}
use Rattle.capture_index.specs.declared.run.Run.{Run}
use Rattle.ready_images.specs.declared.want.Want.{Want}
use Rattle.capture_index.specs.declared.time.PackedTime.{PackedTime}
use Rattle.capture_index.specs.declared.time.Time.{Time}
use Rattle.capture_index.specs.declared.time.Time.TheVariants as time
use Rattle.capture_index.specs.declared.time.TheConstants.{MANY, NEVER}
use Rattle.capture_index.specs.Lists.{IsWantedBy, one_run, runs_told, stone_run}
use Rattle.capture_index.specs.Runs.{cell_by}
use Rattle.capture_index.specs.Stretches.{is_wanted}
use Rattle.capture_index.specs.Times.{HasStoneAt, IsColourTold, is_many, stone_by, told_by}
use Rattle.capture_index.proofs.CellsWanted.{IsOfEmpty, IsOfStone}

not-le : (m n : ℕ) → n < m → nat_le m n ≡ false
not-le m n lt = false_from_ne_true (nat_le m n) (λ t. absurd (omega (arith, lt, leb-true m n t)))

-- ---- the three kinds of words
pub told-many : (packed : PackedTime) → MANY ≤ packed.word → told_by packed ≡ time.Many (packed.word - MANY)
unfolding told_by
told-many packed le =
    ap (λ (b : Bool). cond b (time.Many (packed.word - MANY)) (cond (nat_le (2 * NEVER) packed.word) time.Never (time.First (packed.word / 2) (stone_by packed.word)))) (le-leb MANY packed.word le)

pub told-never : (packed : PackedTime) → 2 * NEVER ≤ packed.word → packed.word < MANY → told_by packed ≡ time.Never
unfolding told_by
told-never packed le lt =
    ap (λ (b : Bool). cond b (time.Many (packed.word - MANY)) (cond (nat_le (2 * NEVER) packed.word) time.Never (time.First (packed.word / 2) (stone_by packed.word)))) (not-le MANY packed.word lt)
    ∙ ap (λ (b : Bool). cond b time.Never (time.First (packed.word / 2) (stone_by packed.word))) (le-leb (2 * NEVER) packed.word le)

pub told-first : (packed : PackedTime) → packed.word < 2 * NEVER → told_by packed ≡ time.First (packed.word / 2) (stone_by packed.word)
unfolding told_by
told-first packed lt =
    ap (λ (b : Bool). cond b (time.Many (packed.word - MANY)) (cond (nat_le (2 * NEVER) packed.word) time.Never (time.First (packed.word / 2) (stone_by packed.word)))) (not-le MANY packed.word (omega (arith, lt)))
    ∙ ap (λ (b : Bool). cond b time.Never (time.First (packed.word / 2) (stone_by packed.word))) (not-le (2 * NEVER) packed.word lt)

-- ---- the words of times
abbrev word : ℕ → PackedTime
word w = record { word = w }

pub packed-black : (node : ℕ) → node < NEVER → told_by (word (2 * node)) ≡ time.First node colour.Black
packed-black node lt =
    let half : (2 * node) / 2 ≡ node = omega arith in
    let rest : (2 * node) % 2 ≡ 0 = omega arith in
    told-first (word (2 * node)) (omega (arith, lt)) ∙ ap (λ (m : ℕ). time.First m (stone_by (2 * node))) half
    ∙ ap (λ (r : ℕ). time.First node (if r == 1 then colour.White else colour.Black)) rest

pub packed-white : (node : ℕ) → node < NEVER → told_by (word (2 * node + 1)) ≡ time.First node colour.White
packed-white node lt =
    let half : (2 * node + 1) / 2 ≡ node = omega arith in
    let rest : (2 * node + 1) % 2 ≡ 1 = omega arith in
    told-first (word (2 * node + 1)) (omega (arith, lt)) ∙ ap (λ (m : ℕ). time.First m (stone_by (2 * node + 1))) half
    ∙ ap (λ (r : ℕ). time.First node (if r == 1 then colour.White else colour.Black)) rest

pub packed-many : (list : ℕ) → told_by (word (MANY + list)) ≡ time.Many list
packed-many list =
    let number : MANY + list - MANY ≡ list = omega arith in
    told-many (word (MANY + list)) (omega arith) ∙ ap time.Many number

pub packed-never : told_by (word (2 * NEVER)) ≡ time.Never
packed-never = told-never (word (2 * NEVER)) (omega arith) (omega arith)

-- ---- when there is a stone

-- by the word
pub stone-words : (packed : PackedTime) (n : ℕ) → HasStoneAt (told_by packed) n ↔ ((packed.word < 2 * NEVER) × (packed.word / 2 ≤ n))
stone-words packed n = elim (cases_lt packed.word (2 * NEVER)) [
  | inl first ↦ subst (λ (t : Time). HasStoneAt t n ↔ ((packed.word < 2 * NEVER) × (packed.word / 2 ≤ n))) (sym (told-first packed first)) (λ le. (first, le), λ h. h.1)
  | inr behind ↦ elim (cases_lt packed.word MANY) [
    | inl few ↦ subst (λ (t : Time). HasStoneAt t n ↔ ((packed.word < 2 * NEVER) × (packed.word / 2 ≤ n))) (sym (told-never packed behind few)) (λ e. absurd e, λ h. absurd (omega (arith, behind, h.0)))
    | inr many ↦ subst (λ (t : Time). HasStoneAt t n ↔ ((packed.word < 2 * NEVER) × (packed.word / 2 ≤ n))) (sym (told-many packed many)) (λ e. absurd e, λ h. absurd (omega (arith, behind, h.0)))
  ]
]

-- of two words the greater
pub stone-later : (first second later : PackedTime) → later.word ≡ max first.word second.word → (n : ℕ) → HasStoneAt (told_by later) n ↔ (HasStoneAt (told_by first) n × HasStoneAt (told_by second) n)
stone-later first second later is n = (
  λ h. let at = (stone-words later n).0 h in ((stone-words first n).1 (omega (arith, at.0, is), omega (arith, at.1, is)), (stone-words second n).1 (omega (arith, at.0, is), omega (arith, at.1, is))),
  λ (one, other).
      let a = (stone-words first n).0 one in
      let b = (stone-words second n).0 other in
      (stone-words later n).1 (omega (arith, a.0, b.0, is), omega (arith, a.1, b.1, is)),
)

-- the least word
pub stone-root : (n : ℕ) → HasStoneAt (told_by (word 0)) n
stone-root n = (stone-words (word 0) n).1 (omega arith, omega arith)

-- of two words the lesser
pub stone-earlier : (first second later : PackedTime) → later.word ≡ min first.word second.word → (n : ℕ) → HasStoneAt (told_by later) n ↔ (HasStoneAt (told_by first) n ⊎ HasStoneAt (told_by second) n)
stone-earlier first second later is n =
    let left = min-le_left first.word second.word in
    let right = min-le_right first.word second.word in (
      λ h. let at = (stone-words later n).0 h in elim (cases_lt first.word second.word) [
        | inl less ↦ inl ((stone-words first n).1 (omega (arith, at.0, is, less), omega (arith, at.1, is, less)))
        | inr from ↦ inr ((stone-words second n).1 (omega (arith, at.0, is, from), omega (arith, at.1, is, from)))
      ],
      λ h. elim h [
        | inl one ↦ let at = (stone-words first n).0 one in (stone-words later n).1 (omega (arith, at.0, is, left), omega (arith, at.1, is, left))
        | inr other ↦ let at = (stone-words second n).0 other in (stone-words later n).1 (omega (arith, at.0, is, right), omega (arith, at.1, is, right))
      ],
    )

-- it stays
pub stone-stays : (t : Time) (m n : ℕ) → m ≤ n → HasStoneAt t m → HasStoneAt t n
stone-stays (time.First node stone) m n le at = omega (arith, le, at)
stone-stays (time.Many list) m n le at = absurd at
stone-stays time.Never m n le at = absurd at

-- the nodes from it on
pub begin-first : (t : Time) (node : ℕ) (stone : Colour) (first : ℕ) → t ≡ time.First node stone → first ≡ node → (n : ℕ) → (first ≤ n) ↔ HasStoneAt t n
begin-first t node stone first is same n = subst (λ (u : Time). (first ≤ n) ↔ HasStoneAt u n) (sym is) (λ le. omega (arith, le, same), λ at. omega (arith, at, same))

pub begin-none : (t : Time) (end : ℕ) → ((n : ℕ) → ¬ HasStoneAt t n) → (n : ℕ) → n < end → (end ≤ n) ↔ HasStoneAt t n
begin-none t end none n lt = (λ le. absurd (omega (arith, lt, le)), λ at. absurd (none n at))

-- the nodes before it
pub end-first : (t : Time) (node : ℕ) (stone : Colour) (to least first : ℕ) → t ≡ time.First node stone → first ≡ node → least ≡ min to first → (n : ℕ) → n < least ↔ ((n < to) × ¬ HasStoneAt t n)
end-first t node stone to least first is same least_is n =
    let low = min-le_left to first in
    let high = min-le_right to first in
    subst (λ (u : Time). n < least ↔ ((n < to) × ¬ HasStoneAt u n)) (sym is) (
      λ lt. (omega (arith, lt, least_is, low), λ at. absurd (omega (arith, lt, least_is, high, same, at))),
      λ (before, none). elim (cases_lt n node) [
        | inl lt ↦ let below : n + 1 ≤ min to first = le-min (omega (arith, before)) (omega (arith, lt, same)) in omega (arith, below, least_is)
        | inr from ↦ absurd (none from)
      ],
    )

pub end-none : (t : Time) (to : ℕ) → ((n : ℕ) → ¬ HasStoneAt t n) → (n : ℕ) → n < to ↔ ((n < to) × ¬ HasStoneAt t n)
end-none t to none n = (λ lt. (lt, none n), λ h. h.0)

-- ---- runs
pub one-told : (ends : List ℕ) (runs : List Run) (t : Time) → is_many t ≡ false → one_run t ≡ runs_told ends runs t
one-told ends runs (time.First node stone) few = refl
one-told ends runs (time.Many list) few = absurd (false≢true (sym few))
one-told ends runs time.Never few = refl

pub run-before : (node : ℕ) (colour : Colour) (n : ℕ) → n < node → cell_by (stone_run node colour ∷ []) n ≡ stone.Empty
run-before node colour n lt = ap (λ (b : Bool). cond b (stone_of colour) stone.Empty) (not-le node n lt)

pub run-from : (node : ℕ) (colour : Colour) (n : ℕ) → node ≤ n → cell_by (stone_run node colour ∷ []) n ≡ stone_of colour
run-from node colour n le = ap (λ (b : Bool). cond b (stone_of colour) stone.Empty) (le-leb node n le)

-- ---- the colour of a stone
pub white-told : (b : Bool) → IsTrue b ↔ ((if b then colour.White else colour.Black) ≡ colour.White)
white-told true = (λ e. refl, λ e. refl)
white-told false = (λ e. absurd (false≢true e), λ e. absurd cc)

pub black-told : (b : Bool) → IsTrue (not b) ↔ ((if b then colour.White else colour.Black) ≡ colour.Black)
black-told true = (λ e. absurd (false≢true e), λ e. absurd cc)
black-told false = (λ e. refl, λ e. refl)

pub colour-told : (packed : PackedTime) (white test : Bool) → IsTrue test ↔ (stone_by packed.word ≡ (if white then colour.White else colour.Black)) → IsColourTold white test (told_by packed)
colour-told packed white test law = elim (cases_lt packed.word (2 * NEVER)) [
  | inl first ↦ subst (IsColourTold white test) (sym (told-first packed first)) law
  | inr behind ↦ elim (cases_lt packed.word MANY) [
    | inl few ↦ subst (IsColourTold white test) (sym (told-never packed behind few)) tt
    | inr many ↦ subst (IsColourTold white test) (sym (told-many packed many)) tt
  ]
]

-- ---- a point that is to have a stone of one colour
module _ (want : Want) (of_stone : IsOfStone want) where
  abbrev asked : Colour
  asked = if is_wanted want stone.White then colour.White else colour.Black

  colour-wanted : (given : Colour) → given ≡ asked → is_wanted want (stone_of given) ≡ true
  colour-wanted given is = ap (λ (c : Colour). is_wanted want (stone_of c)) is ∙ elim (cases_Bool (is_wanted want stone.White)) [
    | inl white ↦ ap (λ (b : Bool). is_wanted want (stone_of (if b then colour.White else colour.Black))) white ∙ white
    | inr black ↦ ap (λ (b : Bool). is_wanted want (stone_of (if b then colour.White else colour.Black))) black ∙ of_stone.1 ∙ ap not black
  ]

  colour-unwanted : (given : Colour) → ¬ (given ≡ asked) → is_wanted want (stone_of given) ≡ false
  colour-unwanted colour.Black other = elim (cases_Bool (is_wanted want stone.White)) [
    | inl white ↦ of_stone.1 ∙ ap not white
    | inr black ↦ absurd (other (sym (ap (λ (b : Bool). if b then colour.White else colour.Black) black)))
  ]
  colour-unwanted colour.White other = elim (cases_Bool (is_wanted want stone.White)) [
    | inl white ↦ absurd (other (sym (ap (λ (b : Bool). if b then colour.White else colour.Black) white)))
    | inr black ↦ black
  ]

  -- it has it from then on
  pub stone-wanted : (t : Time) → IsColourTold (is_wanted want stone.White) true t → (n : ℕ) → HasStoneAt t n → IsWantedBy want (one_run t) n
  stone-wanted (time.First node stone) told n at = ap (is_wanted want) (run-from node stone n at) ∙ colour-wanted stone (told.0 refl)
  stone-wanted (time.Many list) told n at = absurd at
  stone-wanted time.Never told n at = absurd at

  -- and not before
  pub stone-there : (t : Time) (n : ℕ) → IsWantedBy want (one_run t) n → HasStoneAt t n
  stone-there (time.First node stone) n wanted = elim (cases_lt n node) [
    | inl before ↦ absurd (false≢true (sym (ap (is_wanted want) (run-before node stone n before) ∙ of_stone.0) ∙ wanted))
    | inr from ↦ from
  ]
  stone-there (time.Many list) n wanted = absurd (false≢true (sym of_stone.0 ∙ wanted))
  stone-there time.Never n wanted = absurd (false≢true (sym of_stone.0 ∙ wanted))

  -- or never
  pub other-unwanted : (t : Time) → IsColourTold (is_wanted want stone.White) false t → (n : ℕ) → IsWantedBy want (one_run t) n → ⊥
  other-unwanted (time.First node stone) told n wanted =
      let at = stone-there (time.First node stone) n wanted in
      false≢true (sym (ap (is_wanted want) (run-from node stone n at) ∙ colour-unwanted stone (λ e. false≢true (told.1 e))) ∙ wanted)
  other-unwanted (time.Many list) told n wanted = false≢true (sym of_stone.0 ∙ wanted)
  other-unwanted time.Never told n wanted = false≢true (sym of_stone.0 ∙ wanted)

-- ---- a point that is to be empty
module _ (want : Want) (of_empty : IsOfEmpty want) where
  -- it is before its stone comes
  pub empty-wanted : (t : Time) (n : ℕ) → ¬ HasStoneAt t n → IsWantedBy want (one_run t) n
  empty-wanted (time.First node stone) n none = elim (cases_lt n node) [
    | inl before ↦ ap (is_wanted want) (run-before node stone n before) ∙ of_empty.0
    | inr from ↦ absurd (none from)
  ]
  empty-wanted (time.Many list) n none = of_empty.0
  empty-wanted time.Never n none = of_empty.0

  no-stone : (c : Colour) → is_wanted want (stone_of c) ≡ false
  no-stone colour.Black = of_empty.1
  no-stone colour.White = of_empty.2

  -- and isn't from then on
  pub stone-unwanted : (t : Time) (n : ℕ) → HasStoneAt t n → IsWantedBy want (one_run t) n → ⊥
  stone-unwanted (time.First node stone) n at wanted = false≢true (sym (ap (is_wanted want) (run-from node stone n at) ∙ no-stone stone) ∙ wanted)
  stone-unwanted (time.Many list) n at wanted = absurd at
  stone-unwanted time.Never n at wanted = absurd at
