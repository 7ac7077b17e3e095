-- It can be told whether a filter accepts a game.
use Rattle.std.proofs.Common.{◌≡◌, ◌⊎◌, ◌∙◌, ◌++◌, ℕ, zero, suc, ℤ, ◌≤ℤ◌, List, [], ◌∷◌, All, Option, Some, None, refl, sym, ap, subst, inl, inr}
use Rattle.std.specs.Int.Signed.{le_z, le_z_yes}
use Rattle.std.proofs.Math.Dec.{T}
use Rattle.std.proofs.lemmas.Bool.{cases_Bool}
use Rattle.std.proofs.lemmas.Bool.Decides.{eqb_tells}
use Rattle.std.proofs.lemmas.List.Elements.{All-cons, All-head, All-nil, All-tail}
use Rattle.kb_geometry.specs.declared.stone.Outcome.{Outcome}
use Rattle.kb_geometry.specs.declared.stone.Outcome.TheVariants as outcome
use Rattle.game_tree.specs.Information.{Information}
use Rattle.game_tree.specs.Result.{outcome_of}
use Rattle.info_filter.specs.declared.condition.Condition.{Condition}
use Rattle.info_filter.specs.declared.condition.Condition.TheVariants as condition
use Rattle.info_filter.specs.declared.filter.Filter.{Filter}
use Rattle.info_filter.specs.Day.{HasDay, IsDayOf}
use Rattle.info_filter.specs.Filter.{Accepts, HasBytes, IsMetBy}
use Rattle.info_filter.proofs.Calendars.{day_once}
use Rattle.info_filter.proofs.SomeDay.{Tells, some_day, tells_either}

-- ---- bytes in a text

-- bytes stand at the beginning of a text or not
tells_lead : (text bytes : List ℕ) → Tells ((after : List ℕ) × (text ≡ bytes ++ after))
tells_lead text [] = inl (text, refl)
tells_lead [] (b ∷ bytes) = inr (λ (after, is). absurd cc)
tells_lead (t ∷ text) (b ∷ bytes) = elim (eqb_tells t b) [
  | inr (f, differ) ↦ inr (λ (after, is). let same : t ≡ b = cc (is) in differ same)
  | inl (_, same) ↦ elim (tells_lead text bytes) [
    | inl (after, is) ↦ inl (after, (λ i. same i ∷ is i))
    | inr never ↦ inr (λ (after, is). let rest : text ≡ bytes ++ after = cc (is) in never (after, rest))
  ]
]

tells_bytes : (text bytes : List ℕ) → Tells (HasBytes text bytes)
tells_bytes [] [] = inl ([], [], refl)
tells_bytes [] (b ∷ bytes) = inr (λ (before, after, is). nowhere before after is)
  where
    nowhere : (before after : List ℕ) → ¬ ([] ≡ before ++ ((b ∷ bytes) ++ after))
    nowhere [] after is = absurd cc
    nowhere (x ∷ before) after is = absurd cc
tells_bytes (t ∷ text) bytes = elim (tells_lead (t ∷ text) bytes) [
  | inl (after, is) ↦ inl ([], after, is)
  | inr not_here ↦ elim (tells_bytes text bytes) [
    | inl (before, after, is) ↦ inl (t ∷ before, after, ap (λ xs. t ∷ xs) is)
    | inr not_there ↦ inr (λ (before, after, is). nowhere not_here not_there before after is)
  ]
]
  where
    nowhere : ¬ ((after : List ℕ) × (t ∷ text ≡ bytes ++ after)) → ¬ HasBytes text bytes → (before after : List ℕ) → ¬ (t ∷ text ≡ before ++ (bytes ++ after))
    nowhere not_here not_there [] after is = not_here (after, is)
    nowhere not_here not_there (x ∷ before) after is = let rest : text ≡ before ++ (bytes ++ after) = cc (is) in not_there (before, after, rest)

-- ---- days and outcomes

tells_order : (a b : ℤ) → Tells (a ≤ℤ b)
tells_order a b = elim (cases_Bool (le_z a b)) [
  | inl t ↦ inl (le_z_yes (subst T (sym t) tt))
  | inr f ↦ inr (λ le. subst T f le.le)
]

-- a text has a day of which something is true or not, where that can be told of each day
tells_day : (text : List ℕ) (P : ℤ → Type 0) → ((day : ℤ) → Tells (P day)) → Tells ((day : ℤ) × HasDay text day × P day)
tells_day text P tells = let (day, is) = some_day text in told day is
  where
    told : (day : Option ℤ) → IsDayOf text day → Tells ((day : ℤ) × HasDay text day × P day)
    told (Some day) has = elim (tells day) [
      | inl is ↦ inl (day, has, is)
      | inr never ↦ inr (λ (other, other_has, is). never (subst P (day_once text other day other_has has) is))
    ]
    told None none = inr (λ (other, other_has, is). none other other_has)

-- outcomes by numbers
number_of : Outcome → ℕ
number_of outcome.Black = 0
number_of outcome.White = 1
number_of outcome.Draw = 2
number_of outcome.Void = 3
number_of outcome.Unknown = 4
number_of outcome.Other = 5

outcome_with : ℕ → Outcome
outcome_with zero = outcome.Black
outcome_with (suc zero) = outcome.White
outcome_with (suc (suc zero)) = outcome.Draw
outcome_with (suc (suc (suc zero))) = outcome.Void
outcome_with (suc (suc (suc (suc zero)))) = outcome.Unknown
outcome_with (suc (suc (suc (suc (suc n))))) = outcome.Other

numbered : (o : Outcome) → outcome_with (number_of o) ≡ o
unfolding outcome_with number_of
numbered outcome.Black = refl
numbered outcome.White = refl
numbered outcome.Draw = refl
numbered outcome.Void = refl
numbered outcome.Unknown = refl
numbered outcome.Other = refl

tells_outcome : (a b : Outcome) → Tells (a ≡ b)
tells_outcome a b = elim (eqb_tells (number_of a) (number_of b)) [
  | inl (_, same) ↦ inl (sym (numbered a) ∙ ap outcome_with same ∙ numbered b)
  | inr (_, differ) ↦ inr (λ same. differ (ap number_of same))
]

-- ---- conditions

tells_met : (c : Condition) (info : Information) → Tells (IsMetBy c info)
tells_met (condition.Player t) info = tells_either (tells_bytes info.black t) (tells_bytes info.white t)
tells_met (condition.Black t) info = tells_bytes info.black t
tells_met (condition.White t) info = tells_bytes info.white t
tells_met (condition.Event t) info = tells_bytes info.event t
tells_met (condition.Place t) info = tells_bytes info.place t
tells_met (condition.Result o) info = tells_outcome (outcome_of info.outcome_text) o
tells_met (condition.From d) info = tells_day info.date (λ day. d ≤ℤ day) (λ day. tells_order d day)
tells_met (condition.To d) info = tells_day info.date (λ day. day ≤ℤ d) (λ day. tells_order day d)

-- a filter accepts a game or not
pub told_accepts : (filter : Filter) (info : Information) → Accepts filter info ⊎ ¬ Accepts filter info
told_accepts filter info = told filter.conditions
  where
    told : (conditions : List Condition) → Tells (All (λ (c : Condition). IsMetBy c info) conditions)
    told [] = inl (All-nil (λ (c : Condition). IsMetBy c info))
    told (c ∷ cs) = elim (tells_met c info) [
      | inr never ↦ inr (λ all. never (All-head (λ (c : Condition). IsMetBy c info) c cs all))
      | inl met ↦ elim (told cs) [
        | inl all ↦ inl (All-cons (λ (c : Condition). IsMetBy c info) c cs met all)
        | inr never ↦ inr (λ all. never (All-tail (λ (c : Condition). IsMetBy c info) c cs all))
      ]
    ]
