-- Whether words spell the conditions of a search can be told, and they spell one list at most.
use Rattle.std.proofs.Common.{◌≡◌, ◌≢◌, ◌⊎◌, ◌∙◌, ℕ, ℤ, List, [], ◌∷◌, codes, refl, sym, ap, subst, inl, inr}
use Rattle.kb_geometry.specs.declared.stone.Outcome.{Outcome}
use Rattle.kb_geometry.specs.declared.stone.Outcome.TheVariants as outcome
use Rattle.info_filter.specs.declared.condition.Condition.{Condition}
use Rattle.info_filter.specs.declared.condition.Condition.TheVariants as condition
use Rattle.info_filter.specs.Day.{IsWrittenDay}
use Rattle.info_filter.proofs.WrittenDays.{told_written_day, written_once}
use Rattle.query_script.specs.declared.word.Word.{Word}
use Rattle.query_script.specs.declared.word.Word.TheVariants as word
use Rattle.query_script.specs.Conditions.{AreConditions, IsCondition, outcome_word}
use Rattle.query_script.specs.Conditions.AreConditions.{nothing, one_more}
use Rattle.query_script.specs.Words.{bare}
use Rattle.query_script.proofs.ToldSearches.{apart, same_bare, same_first, same_rest, told_text}

-- ---- a condition by its name

-- a word has one name
two_kinds : (kind : Word) (name other : List ℕ) → kind ≡ bare name → kind ≡ bare other → name ≢ other → ⊥
two_kinds kind name other is is_too differ = differ (same_bare name other (sym is ∙ is_too))

pub player_alone : (c : Condition) (kind value : Word) → kind ≡ bare (codes "player") → IsCondition c kind value → (t : List ℕ) × (value ≡ word.Quoted t) × (c ≡ condition.Player t)
player_alone (condition.Player t) kind value name (kind_is, is) = (t, is, refl)
player_alone (condition.Black t) kind value name (other, is) = absurd (two_kinds kind _ _ name other (apart _ _ refl))
player_alone (condition.White t) kind value name (other, is) = absurd (two_kinds kind _ _ name other (apart _ _ refl))
player_alone (condition.Event t) kind value name (other, is) = absurd (two_kinds kind _ _ name other (apart _ _ refl))
player_alone (condition.Place t) kind value name (other, is) = absurd (two_kinds kind _ _ name other (apart _ _ refl))
player_alone (condition.Result o) kind value name (other, is) = absurd (two_kinds kind _ _ name other (apart _ _ refl))
player_alone (condition.From d) kind value name (text, other, is, written) = absurd (two_kinds kind _ _ name other (apart _ _ refl))
player_alone (condition.To d) kind value name (text, other, is, written) = absurd (two_kinds kind _ _ name other (apart _ _ refl))

pub black_alone : (c : Condition) (kind value : Word) → kind ≡ bare (codes "black") → IsCondition c kind value → (t : List ℕ) × (value ≡ word.Quoted t) × (c ≡ condition.Black t)
black_alone (condition.Player t) kind value name (other, is) = absurd (two_kinds kind _ _ name other (apart _ _ refl))
black_alone (condition.Black t) kind value name (kind_is, is) = (t, is, refl)
black_alone (condition.White t) kind value name (other, is) = absurd (two_kinds kind _ _ name other (apart _ _ refl))
black_alone (condition.Event t) kind value name (other, is) = absurd (two_kinds kind _ _ name other (apart _ _ refl))
black_alone (condition.Place t) kind value name (other, is) = absurd (two_kinds kind _ _ name other (apart _ _ refl))
black_alone (condition.Result o) kind value name (other, is) = absurd (two_kinds kind _ _ name other (apart _ _ refl))
black_alone (condition.From d) kind value name (text, other, is, written) = absurd (two_kinds kind _ _ name other (apart _ _ refl))
black_alone (condition.To d) kind value name (text, other, is, written) = absurd (two_kinds kind _ _ name other (apart _ _ refl))

pub white_alone : (c : Condition) (kind value : Word) → kind ≡ bare (codes "white") → IsCondition c kind value → (t : List ℕ) × (value ≡ word.Quoted t) × (c ≡ condition.White t)
white_alone (condition.Player t) kind value name (other, is) = absurd (two_kinds kind _ _ name other (apart _ _ refl))
white_alone (condition.Black t) kind value name (other, is) = absurd (two_kinds kind _ _ name other (apart _ _ refl))
white_alone (condition.White t) kind value name (kind_is, is) = (t, is, refl)
white_alone (condition.Event t) kind value name (other, is) = absurd (two_kinds kind _ _ name other (apart _ _ refl))
white_alone (condition.Place t) kind value name (other, is) = absurd (two_kinds kind _ _ name other (apart _ _ refl))
white_alone (condition.Result o) kind value name (other, is) = absurd (two_kinds kind _ _ name other (apart _ _ refl))
white_alone (condition.From d) kind value name (text, other, is, written) = absurd (two_kinds kind _ _ name other (apart _ _ refl))
white_alone (condition.To d) kind value name (text, other, is, written) = absurd (two_kinds kind _ _ name other (apart _ _ refl))

pub event_alone : (c : Condition) (kind value : Word) → kind ≡ bare (codes "event") → IsCondition c kind value → (t : List ℕ) × (value ≡ word.Quoted t) × (c ≡ condition.Event t)
event_alone (condition.Player t) kind value name (other, is) = absurd (two_kinds kind _ _ name other (apart _ _ refl))
event_alone (condition.Black t) kind value name (other, is) = absurd (two_kinds kind _ _ name other (apart _ _ refl))
event_alone (condition.White t) kind value name (other, is) = absurd (two_kinds kind _ _ name other (apart _ _ refl))
event_alone (condition.Event t) kind value name (kind_is, is) = (t, is, refl)
event_alone (condition.Place t) kind value name (other, is) = absurd (two_kinds kind _ _ name other (apart _ _ refl))
event_alone (condition.Result o) kind value name (other, is) = absurd (two_kinds kind _ _ name other (apart _ _ refl))
event_alone (condition.From d) kind value name (text, other, is, written) = absurd (two_kinds kind _ _ name other (apart _ _ refl))
event_alone (condition.To d) kind value name (text, other, is, written) = absurd (two_kinds kind _ _ name other (apart _ _ refl))

pub place_alone : (c : Condition) (kind value : Word) → kind ≡ bare (codes "place") → IsCondition c kind value → (t : List ℕ) × (value ≡ word.Quoted t) × (c ≡ condition.Place t)
place_alone (condition.Player t) kind value name (other, is) = absurd (two_kinds kind _ _ name other (apart _ _ refl))
place_alone (condition.Black t) kind value name (other, is) = absurd (two_kinds kind _ _ name other (apart _ _ refl))
place_alone (condition.White t) kind value name (other, is) = absurd (two_kinds kind _ _ name other (apart _ _ refl))
place_alone (condition.Event t) kind value name (other, is) = absurd (two_kinds kind _ _ name other (apart _ _ refl))
place_alone (condition.Place t) kind value name (kind_is, is) = (t, is, refl)
place_alone (condition.Result o) kind value name (other, is) = absurd (two_kinds kind _ _ name other (apart _ _ refl))
place_alone (condition.From d) kind value name (text, other, is, written) = absurd (two_kinds kind _ _ name other (apart _ _ refl))
place_alone (condition.To d) kind value name (text, other, is, written) = absurd (two_kinds kind _ _ name other (apart _ _ refl))

pub result_alone : (c : Condition) (kind value : Word) → kind ≡ bare (codes "result") → IsCondition c kind value → (o : Outcome) × (value ≡ bare (outcome_word o)) × (c ≡ condition.Result o)
result_alone (condition.Player t) kind value name (other, is) = absurd (two_kinds kind _ _ name other (apart _ _ refl))
result_alone (condition.Black t) kind value name (other, is) = absurd (two_kinds kind _ _ name other (apart _ _ refl))
result_alone (condition.White t) kind value name (other, is) = absurd (two_kinds kind _ _ name other (apart _ _ refl))
result_alone (condition.Event t) kind value name (other, is) = absurd (two_kinds kind _ _ name other (apart _ _ refl))
result_alone (condition.Place t) kind value name (other, is) = absurd (two_kinds kind _ _ name other (apart _ _ refl))
result_alone (condition.Result o) kind value name (kind_is, is) = (o, is, refl)
result_alone (condition.From d) kind value name (text, other, is, written) = absurd (two_kinds kind _ _ name other (apart _ _ refl))
result_alone (condition.To d) kind value name (text, other, is, written) = absurd (two_kinds kind _ _ name other (apart _ _ refl))

pub from_alone : (c : Condition) (kind value : Word) → kind ≡ bare (codes "from") → IsCondition c kind value → (d : ℤ) × (text : List ℕ) × (value ≡ bare text) × IsWrittenDay text d × (c ≡ condition.From d)
from_alone (condition.Player t) kind value name (other, is) = absurd (two_kinds kind _ _ name other (apart _ _ refl))
from_alone (condition.Black t) kind value name (other, is) = absurd (two_kinds kind _ _ name other (apart _ _ refl))
from_alone (condition.White t) kind value name (other, is) = absurd (two_kinds kind _ _ name other (apart _ _ refl))
from_alone (condition.Event t) kind value name (other, is) = absurd (two_kinds kind _ _ name other (apart _ _ refl))
from_alone (condition.Place t) kind value name (other, is) = absurd (two_kinds kind _ _ name other (apart _ _ refl))
from_alone (condition.Result o) kind value name (other, is) = absurd (two_kinds kind _ _ name other (apart _ _ refl))
from_alone (condition.From d) kind value name (text, kind_is, is, written) = (d, text, is, written, refl)
from_alone (condition.To d) kind value name (text, other, is, written) = absurd (two_kinds kind _ _ name other (apart _ _ refl))

pub to_alone : (c : Condition) (kind value : Word) → kind ≡ bare (codes "to") → IsCondition c kind value → (d : ℤ) × (text : List ℕ) × (value ≡ bare text) × IsWrittenDay text d × (c ≡ condition.To d)
to_alone (condition.Player t) kind value name (other, is) = absurd (two_kinds kind _ _ name other (apart _ _ refl))
to_alone (condition.Black t) kind value name (other, is) = absurd (two_kinds kind _ _ name other (apart _ _ refl))
to_alone (condition.White t) kind value name (other, is) = absurd (two_kinds kind _ _ name other (apart _ _ refl))
to_alone (condition.Event t) kind value name (other, is) = absurd (two_kinds kind _ _ name other (apart _ _ refl))
to_alone (condition.Place t) kind value name (other, is) = absurd (two_kinds kind _ _ name other (apart _ _ refl))
to_alone (condition.Result o) kind value name (other, is) = absurd (two_kinds kind _ _ name other (apart _ _ refl))
to_alone (condition.From d) kind value name (text, other, is, written) = absurd (two_kinds kind _ _ name other (apart _ _ refl))
to_alone (condition.To d) kind value name (text, kind_is, is, written) = (d, text, is, written, refl)

-- a quoted word is none of a result or a day, and a bare one none of a text
quoted_apart : (text bytes : List ℕ) → word.Quoted text ≡ bare bytes → ⊥
quoted_apart text bytes e = absurd (cc e)

same_quoted : (a b : List ℕ) → word.Quoted a ≡ word.Quoted b → a ≡ b
same_quoted a b e = cc

pub no_text_condition : (kind : Word) (text : List ℕ) → kind ≢ bare (codes "player") → kind ≢ bare (codes "black") → kind ≢ bare (codes "white") → kind ≢ bare (codes "event") → kind ≢ bare (codes "place") → (c : Condition) → ¬ IsCondition c kind (word.Quoted text)
no_text_condition kind text player black white event place (condition.Player t) (is, _) = player is
no_text_condition kind text player black white event place (condition.Black t) (is, _) = black is
no_text_condition kind text player black white event place (condition.White t) (is, _) = white is
no_text_condition kind text player black white event place (condition.Event t) (is, _) = event is
no_text_condition kind text player black white event place (condition.Place t) (is, _) = place is
no_text_condition kind text player black white event place (condition.Result o) (_, is) = quoted_apart text _ is
no_text_condition kind text player black white event place (condition.From d) (bytes, _, is, _) = quoted_apart text bytes is
no_text_condition kind text player black white event place (condition.To d) (bytes, _, is, _) = quoted_apart text bytes is

pub no_bare_condition : (kind : Word) (bytes : List ℕ) → kind ≢ bare (codes "result") → kind ≢ bare (codes "from") → kind ≢ bare (codes "to") → (c : Condition) → ¬ IsCondition c kind (bare bytes)
no_bare_condition kind bytes result from to_ (condition.Player t) (_, is) = quoted_apart t bytes (sym is)
no_bare_condition kind bytes result from to_ (condition.Black t) (_, is) = quoted_apart t bytes (sym is)
no_bare_condition kind bytes result from to_ (condition.White t) (_, is) = quoted_apart t bytes (sym is)
no_bare_condition kind bytes result from to_ (condition.Event t) (_, is) = quoted_apart t bytes (sym is)
no_bare_condition kind bytes result from to_ (condition.Place t) (_, is) = quoted_apart t bytes (sym is)
no_bare_condition kind bytes result from to_ (condition.Result o) (is, _) = result is
no_bare_condition kind bytes result from to_ (condition.From d) (_, is, _, _) = from is
no_bare_condition kind bytes result from to_ (condition.To d) (_, is, _, _) = to_ is

-- no condition of this kind where the word is no day
pub no_from_day : (kind : Word) (bytes : List ℕ) → kind ≡ bare (codes "from") → ((d : ℤ) → ¬ IsWrittenDay bytes d) → (c : Condition) → ¬ IsCondition c kind (bare bytes)
no_from_day kind bytes name never c spelled =
    let (d, text, same, written, made) = from_alone c kind (bare bytes) name spelled in
    never d (subst (λ b. IsWrittenDay b d) (sym (same_bare bytes text same)) written)

-- no condition of this kind where the word is no day
pub no_to_day : (kind : Word) (bytes : List ℕ) → kind ≡ bare (codes "to") → ((d : ℤ) → ¬ IsWrittenDay bytes d) → (c : Condition) → ¬ IsCondition c kind (bare bytes)
no_to_day kind bytes name never c spelled =
    let (d, text, same, written, made) = to_alone c kind (bare bytes) name spelled in
    never d (subst (λ b. IsWrittenDay b d) (sym (same_bare bytes text same)) written)

-- ---- a condition is told

-- the condition that two words spell, and no other
abbrev HasCondition : Word → Word → Type 0
HasCondition kind value = (c : Condition) × IsCondition c kind value × ((other : Condition) → IsCondition other kind value → other ≡ c)

abbrev ToldCondition : Word → Word → Type 0
ToldCondition kind value = HasCondition kind value ⊎ ((c : Condition) → IsCondition c kind value → ⊥)

told_kind : (name : List ℕ) (kind : Word) → (kind ≡ bare name) ⊎ (kind ≢ bare name)
told_kind name (word.Quoted bytes) = inr (λ e. quoted_apart bytes name e)
told_kind name (word.Bare bytes) = elim (told_text bytes name) [
  | inl same ↦ inl (ap (λ b. bare b) same)
  | inr other ↦ inr (λ e. other (same_bare bytes name e))
]

told_quoted : (kind : Word) (text : List ℕ) → ToldCondition kind (word.Quoted text)
told_quoted kind text = elim (told_kind (codes "player") kind) [
  | inl is ↦ inl (
    condition.Player text,
    (is, refl),
    λ other spelled.
        let (t, same, made) = player_alone other kind (word.Quoted text) is spelled in
        made ∙ ap (λ b. condition.Player b) (sym (same_quoted text t same)),
  )
  | inr player ↦ elim (told_kind (codes "black") kind) [
    | inl is ↦ inl (
      condition.Black text,
      (is, refl),
      λ other spelled.
          let (t, same, made) = black_alone other kind (word.Quoted text) is spelled in
          made ∙ ap (λ b. condition.Black b) (sym (same_quoted text t same)),
    )
    | inr black ↦ elim (told_kind (codes "white") kind) [
      | inl is ↦ inl (
        condition.White text,
        (is, refl),
        λ other spelled.
            let (t, same, made) = white_alone other kind (word.Quoted text) is spelled in
            made ∙ ap (λ b. condition.White b) (sym (same_quoted text t same)),
      )
      | inr white ↦ elim (told_kind (codes "event") kind) [
        | inl is ↦ inl (
          condition.Event text,
          (is, refl),
          λ other spelled.
              let (t, same, made) = event_alone other kind (word.Quoted text) is spelled in
              made ∙ ap (λ b. condition.Event b) (sym (same_quoted text t same)),
        )
        | inr event ↦ elim (told_kind (codes "place") kind) [
          | inl is ↦ inl (
            condition.Place text,
            (is, refl),
            λ other spelled.
                let (t, same, made) = place_alone other kind (word.Quoted text) is spelled in
                made ∙ ap (λ b. condition.Place b) (sym (same_quoted text t same)),
          )
          | inr place ↦ inr (no_text_condition kind text player black white event place)
        ]
      ]
    ]
  ]
]

same_outcome : (o p : Outcome) → outcome_word o ≡ outcome_word p → o ≡ p
same_outcome outcome.Black outcome.Black e = refl
same_outcome outcome.Black outcome.White e = absurd (apart _ _ refl e)
same_outcome outcome.Black outcome.Draw e = absurd (apart _ _ refl e)
same_outcome outcome.Black outcome.Void e = absurd (apart _ _ refl e)
same_outcome outcome.Black outcome.Unknown e = absurd (apart _ _ refl e)
same_outcome outcome.Black outcome.Other e = absurd (apart _ _ refl e)
same_outcome outcome.White outcome.Black e = absurd (apart _ _ refl e)
same_outcome outcome.White outcome.White e = refl
same_outcome outcome.White outcome.Draw e = absurd (apart _ _ refl e)
same_outcome outcome.White outcome.Void e = absurd (apart _ _ refl e)
same_outcome outcome.White outcome.Unknown e = absurd (apart _ _ refl e)
same_outcome outcome.White outcome.Other e = absurd (apart _ _ refl e)
same_outcome outcome.Draw outcome.Black e = absurd (apart _ _ refl e)
same_outcome outcome.Draw outcome.White e = absurd (apart _ _ refl e)
same_outcome outcome.Draw outcome.Draw e = refl
same_outcome outcome.Draw outcome.Void e = absurd (apart _ _ refl e)
same_outcome outcome.Draw outcome.Unknown e = absurd (apart _ _ refl e)
same_outcome outcome.Draw outcome.Other e = absurd (apart _ _ refl e)
same_outcome outcome.Void outcome.Black e = absurd (apart _ _ refl e)
same_outcome outcome.Void outcome.White e = absurd (apart _ _ refl e)
same_outcome outcome.Void outcome.Draw e = absurd (apart _ _ refl e)
same_outcome outcome.Void outcome.Void e = refl
same_outcome outcome.Void outcome.Unknown e = absurd (apart _ _ refl e)
same_outcome outcome.Void outcome.Other e = absurd (apart _ _ refl e)
same_outcome outcome.Unknown outcome.Black e = absurd (apart _ _ refl e)
same_outcome outcome.Unknown outcome.White e = absurd (apart _ _ refl e)
same_outcome outcome.Unknown outcome.Draw e = absurd (apart _ _ refl e)
same_outcome outcome.Unknown outcome.Void e = absurd (apart _ _ refl e)
same_outcome outcome.Unknown outcome.Unknown e = refl
same_outcome outcome.Unknown outcome.Other e = absurd (apart _ _ refl e)
same_outcome outcome.Other outcome.Black e = absurd (apart _ _ refl e)
same_outcome outcome.Other outcome.White e = absurd (apart _ _ refl e)
same_outcome outcome.Other outcome.Draw e = absurd (apart _ _ refl e)
same_outcome outcome.Other outcome.Void e = absurd (apart _ _ refl e)
same_outcome outcome.Other outcome.Unknown e = absurd (apart _ _ refl e)
same_outcome outcome.Other outcome.Other e = refl

told_outcome : (bytes : List ℕ) → ((o : Outcome) × (bytes ≡ outcome_word o)) ⊎ ((o : Outcome) → bytes ≢ outcome_word o)
told_outcome bytes = elim (told_text bytes (codes "black")) [
  | inl is ↦ inl (outcome.Black, is)
  | inr black ↦ elim (told_text bytes (codes "white")) [
    | inl is ↦ inl (outcome.White, is)
    | inr white ↦ elim (told_text bytes (codes "draw")) [
      | inl is ↦ inl (outcome.Draw, is)
      | inr draw ↦ elim (told_text bytes (codes "void")) [
        | inl is ↦ inl (outcome.Void, is)
        | inr void ↦ elim (told_text bytes (codes "unknown")) [
          | inl is ↦ inl (outcome.Unknown, is)
          | inr unknown ↦ elim (told_text bytes (codes "other")) [
            | inl is ↦ inl (outcome.Other, is)
            | inr other ↦ inr (λ o. elim o as (λ p. bytes ≢ outcome_word p) [ outcome.Black ↦ black | outcome.White ↦ white | outcome.Draw ↦ draw | outcome.Void ↦ void | outcome.Unknown ↦ unknown | outcome.Other ↦ other ])
          ]
        ]
      ]
    ]
  ]
]

told_result : (kind : Word) (bytes : List ℕ) → kind ≡ bare (codes "result") → ToldCondition kind (bare bytes)
told_result kind bytes name = elim (told_outcome bytes) [
  | inr never ↦ inr (λ c spelled.
      let (o, same, made) = result_alone c kind (bare bytes) name spelled in
      never o (same_bare bytes (outcome_word o) same))
  | inl (o, is) ↦ inl (
    condition.Result o,
    (name, ap (λ b. bare b) is),
    λ other spelled.
        let (p, same, made) = result_alone other kind (bare bytes) name spelled in
        made ∙ ap (λ b. condition.Result b) (same_outcome p o (sym (same_bare bytes (outcome_word p) same) ∙ is)),
  )
]

told_from : (kind : Word) (bytes : List ℕ) → kind ≡ bare (codes "from") → ToldCondition kind (bare bytes)
told_from kind bytes name = elim (told_written_day bytes) [
  | inr never ↦ inr (no_from_day kind bytes name never)
  | inl (d, written) ↦ inl (
    condition.From d,
    (bytes, name, refl, written),
    λ other spelled.
        let (k, text, same, written_too, made) = from_alone other kind (bare bytes) name spelled in
        made ∙ ap (λ b. condition.From b) (written_once bytes k d (subst (λ b. IsWrittenDay b k) (sym (same_bare bytes text same)) written_too) written),
  )
]

told_to : (kind : Word) (bytes : List ℕ) → kind ≡ bare (codes "to") → ToldCondition kind (bare bytes)
told_to kind bytes name = elim (told_written_day bytes) [
  | inr never ↦ inr (no_to_day kind bytes name never)
  | inl (d, written) ↦ inl (
    condition.To d,
    (bytes, name, refl, written),
    λ other spelled.
        let (k, text, same, written_too, made) = to_alone other kind (bare bytes) name spelled in
        made ∙ ap (λ b. condition.To b) (written_once bytes k d (subst (λ b. IsWrittenDay b k) (sym (same_bare bytes text same)) written_too) written),
  )
]

told_condition : (kind value : Word) → ToldCondition kind value
told_condition kind (word.Quoted text) = told_quoted kind text
told_condition kind (word.Bare bytes) = elim (told_kind (codes "result") kind) [
  | inl is ↦ told_result kind bytes is
  | inr result ↦ elim (told_kind (codes "from") kind) [
    | inl is ↦ told_from kind bytes is
    | inr from ↦ elim (told_kind (codes "to") kind) [
      | inl is ↦ told_to kind bytes is
      | inr to_ ↦ inr (no_bare_condition kind bytes result from to_)
    ]
  ]
]

-- two words spell one condition at most
pub condition_once : (kind value : Word) (c d : Condition) → IsCondition c kind value → IsCondition d kind value → c ≡ d
condition_once kind value c d one other = elim (told_condition kind value) [
  | inl (e, is, only) ↦ only c one ∙ sym (only d other)
  | inr never ↦ absurd (never c one)
]

-- ---- conditions that are joined

-- the words begin with one condition behind the joining word, and the others are joined by `and`
pub record IsJoinedMore (joining : List ℕ) (conditions : List Condition) (w kind value : Word) (rest : List Word) : Type 0 where
  pub first : Condition
  pub others : List Condition
  pub all : conditions ≡ first ∷ others
  pub name : w ≡ bare joining
  pub spelled : IsCondition first kind value
  pub joined : AreConditions (codes "and") others rest

pub joined_more : (joining : List ℕ) (conditions : List Condition) (words : List Word) (w kind value : Word) (rest : List Word) →
    words ≡ w ∷ kind ∷ value ∷ rest → AreConditions joining conditions words → IsJoinedMore joining conditions w kind value rest
joined_more joining _ _ w kind value rest is nothing = absurd (cc is)
joined_more joining _ _ w kind value rest is (one_more {conditions} {words} c k v spelled more) =
    let names : bare joining ≡ w = same_first (bare joining) w (k ∷ v ∷ words) (kind ∷ value ∷ rest) is in
    let behind : k ∷ v ∷ words ≡ kind ∷ value ∷ rest = same_rest (bare joining) w (k ∷ v ∷ words) (kind ∷ value ∷ rest) is in
    let kinds : k ≡ kind = same_first k kind (v ∷ words) (value ∷ rest) behind in
    let last : v ∷ words ≡ value ∷ rest = same_rest k kind (v ∷ words) (value ∷ rest) behind in
    let values : v ≡ value = same_first v value words rest last in
    let rests : words ≡ rest = same_rest v value words rest last in
    record {
      first = c;
      others = conditions;
      all = refl;
      name = sym names;
      spelled = subst (λ x. IsCondition c kind x) values (subst (λ x. IsCondition c x v) kinds spelled);
      joined = subst (AreConditions (codes "and") conditions) rests more;
    }

-- conditions have at least three words
pub joined_three : (joining : List ℕ) (conditions : List Condition) (words : List Word) → AreConditions joining conditions words →
    ((conditions ≡ []) × (words ≡ [])) ⊎ ((w : Word) × (kind : Word) × (value : Word) × (rest : List Word) × (words ≡ w ∷ kind ∷ value ∷ rest))
joined_three joining _ _ nothing = inl (refl, refl)
joined_three joining _ _ (one_more {words} c kind value spelled more) = inr (bare joining, kind, value, words, refl)

pub joined_none : (joining : List ℕ) (conditions : List Condition) (words : List Word) → words ≡ [] → AreConditions joining conditions words → conditions ≡ []
joined_none joining _ _ is nothing = refl
joined_none joining _ _ is (one_more c kind value spelled more) = absurd (cc is)

-- the conditions that words spell, and no others
abbrev HasJoined : List ℕ → List Word → Type 0
HasJoined joining words = (conditions : List Condition) × AreConditions joining conditions words × ((others : List Condition) → AreConditions joining others words → others ≡ conditions)

abbrev ToldJoined : List ℕ → List Word → Type 0
ToldJoined joining words = HasJoined joining words ⊎ ((conditions : List Condition) → AreConditions joining conditions words → ⊥)

-- fewer than three words, but some
no_joined : (joining : List ℕ) (words : List Word) → words ≢ [] → ((w kind value : Word) (rest : List Word) → words ≢ w ∷ kind ∷ value ∷ rest) →
    (conditions : List Condition) → AreConditions joining conditions words → ⊥
no_joined joining words some few conditions joined = elim (joined_three joining conditions words joined) [
  | inl (_, none) ↦ some none
  | inr (w, kind, value, rest, is) ↦ few w kind value rest is
]

pub told_joined : (joining : List ℕ) (words : List Word) → ToldJoined joining words
told_joined joining [] = inl ([], nothing, λ others joined. joined_none joining others [] refl joined)
told_joined joining (w ∷ []) = inr (no_joined joining (w ∷ []) (λ e. absurd (cc e)) (λ a kind value rest e. absurd (cc e)))
told_joined joining (w ∷ v ∷ []) = inr (no_joined joining (w ∷ v ∷ []) (λ e. absurd (cc e)) (λ a kind value rest e. absurd (cc e)))
told_joined joining (w ∷ kind ∷ value ∷ rest) = elim (told_kind joining w) [
  | inr other ↦ inr (λ conditions joined.
      let more = joined_more joining conditions (w ∷ kind ∷ value ∷ rest) w kind value rest refl joined in
      other more.name)
  | inl name ↦ elim (told_condition kind value) [
    | inr never ↦ inr (λ conditions joined.
        let more = joined_more joining conditions (w ∷ kind ∷ value ∷ rest) w kind value rest refl joined in
        never more.first more.spelled)
    | inl (c, spelled, only) ↦ elim (told_joined (codes "and") rest) [
      | inr never ↦ inr (λ conditions joined.
          let more = joined_more joining conditions (w ∷ kind ∷ value ∷ rest) w kind value rest refl joined in
          never more.others more.joined)
      | inl (conditions, joined, only_these) ↦ inl (
        c ∷ conditions,
        subst (λ a. AreConditions joining (c ∷ conditions) (a ∷ kind ∷ value ∷ rest)) (sym name) (one_more c kind value spelled joined),
        λ others joined_too.
            let more = joined_more joining others (w ∷ kind ∷ value ∷ rest) w kind value rest refl joined_too in
            more.all
            ∙ ap (λ x. x ∷ more.others) (only more.first more.spelled)
            ∙ ap (λ l. c ∷ l) (only_these more.others more.joined),
      )
    ]
  ]
]
