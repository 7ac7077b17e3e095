-- The words of a search with its conditions: the body, and behind it perhaps `where COND` and any
-- number of `and COND`. In front of it may stand the name under which it is watched.
use Rattle.std.specs.Prelude.{◌≡◌, ℕ, ℤ, List, [], ◌∷◌, ◌++◌, codes, IsUtf8}
use Rattle.kb_geometry.specs.declared.stone.Outcome.{Outcome}
use Rattle.kb_geometry.specs.declared.stone.Outcome.TheVariants as outcome
use Rattle.info_filter.specs.declared.condition.Condition.{Condition}
use Rattle.info_filter.specs.declared.condition.Condition.TheVariants as condition
use Rattle.info_filter.specs.declared.filter.Filter.{Filter}
use Rattle.info_filter.specs.Day.{IsWrittenDay}
use Rattle.pattern_images.specs.declared.query.Query.{Query}
use Rattle.query_script.specs.declared.word.Word.{Word}
use Rattle.query_script.specs.declared.word.Word.TheVariants as word
use Rattle.query_script.specs.Search.{IsBody}
use Rattle.query_script.specs.Words.{bare}

-- how a script names the class of a result
abbrev pub outcome_word : Outcome → List ℕ
outcome_word outcome.Black = codes "black"
outcome_word outcome.White = codes "white"
outcome_word outcome.Draw = codes "draw"
outcome_word outcome.Void = codes "void"
outcome_word outcome.Unknown = codes "unknown"
outcome_word outcome.Other = codes "other"

-- the first word is the bare name of a condition, and the second one a quoted text
abbrev pub IsTextAsked : List ℕ → List ℕ → Word → Word → Type 0
IsTextAsked name text kind value = (kind ≡ bare name) × (value ≡ word.Quoted text)

-- the first word is the bare name of a condition, and the second one a day, written YYYY-MM-DD
abbrev pub IsDayAsked : List ℕ → ℤ → Word → Word → Type 0
IsDayAsked name day kind value =
    (text : List ℕ) × (kind ≡ bare name) × (value ≡ bare text) × IsWrittenDay text day

-- the two words spell the condition
abbrev pub IsCondition : Condition → Word → Word → Type 0
IsCondition (condition.Player t) kind value = IsTextAsked (codes "player") t kind value
IsCondition (condition.Black t) kind value = IsTextAsked (codes "black") t kind value
IsCondition (condition.White t) kind value = IsTextAsked (codes "white") t kind value
IsCondition (condition.Event t) kind value = IsTextAsked (codes "event") t kind value
IsCondition (condition.Place t) kind value = IsTextAsked (codes "place") t kind value
IsCondition (condition.Result o) kind value =
    (kind ≡ bare (codes "result")) × (value ≡ bare (outcome_word o))
IsCondition (condition.From d) kind value = IsDayAsked (codes "from") d kind value
IsCondition (condition.To d) kind value = IsDayAsked (codes "to") d kind value

-- The words spell these conditions, in order: this joining word stands before the first one, and
-- `and` before each other.
pub data AreConditions : List ℕ → List Condition → List Word → Type 0 where
  nothing : {joining : List ℕ} → AreConditions joining [] []
  one_more : {joining : List ℕ} {conditions : List Condition} {words : List Word} (c : Condition)
      (kind value : Word) →
      IsCondition c kind value →
      AreConditions (codes "and") conditions words →
      AreConditions joining (c ∷ conditions) (bare joining ∷ kind ∷ value ∷ words)

-- The words behind `search` spell the query and then the conditions of the filter, the first one
-- behind `where`. Without `where` the filter has none.
pub record IsFilteredBody (words : List Word) (query : Query) (filter : Filter) : Type 0 where
  pub body : List Word
  pub asked : List Word
  pub split : words ≡ body ++ asked
  pub body_is : IsBody body query
  pub asked_is : AreConditions (codes "where") filter.conditions asked

-- The words behind `watch` spell the name, a bare word in UTF-8, and then what stands behind `search`.
pub record IsNamedBody (words : List Word) (name : List ℕ) (query : Query) (filter : Filter)
    : Type 0 where
  pub body : List Word
  pub split : words ≡ bare name ∷ body
  pub utf8 : IsUtf8 name
  pub body_is : IsFilteredBody body query filter
