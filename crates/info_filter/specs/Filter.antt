-- Which games a filter accepts, by their information.
use Rattle.std.specs.Prelude.{◌≡◌, ◌⊎◌, ℕ, ◌++◌, List, All, ℤ, ◌≤ℤ◌}
use Rattle.game_tree.specs.Information.{Information}
use Rattle.game_tree.specs.Result.{outcome_of}
use Rattle.info_filter.specs.declared.condition.Condition.{Condition}
use Rattle.info_filter.specs.declared.condition.Condition.TheVariants as condition
use Rattle.info_filter.specs.declared.filter.Filter.{Filter}
use Rattle.info_filter.specs.Day.{HasDay}

-- The bytes stand somewhere in the text, next to each other. The empty text stands in every text.
abbrev pub HasBytes : List ℕ → List ℕ → Type 0
HasBytes text bytes =
    (before : List ℕ) × (after : List ℕ) × (text ≡ before ++ (bytes ++ after))

-- What a condition asks of a game's information. A game without a day meets neither of the last
-- two.
abbrev pub IsMetBy : Condition → Information → Type 0
IsMetBy (condition.Player t) info = HasBytes info.black t ⊎ HasBytes info.white t
IsMetBy (condition.Black t) info = HasBytes info.black t
IsMetBy (condition.White t) info = HasBytes info.white t
IsMetBy (condition.Event t) info = HasBytes info.event t
IsMetBy (condition.Place t) info = HasBytes info.place t
IsMetBy (condition.Result o) info = outcome_of info.outcome_text ≡ o
IsMetBy (condition.From d) info = (day : ℤ) × HasDay info.date day × (d ≤ℤ day)
IsMetBy (condition.To d) info = (day : ℤ) × HasDay info.date day × (day ≤ℤ d)

-- a filter accepts a game where each of its conditions is met
abbrev pub Accepts : Filter → Information → Type 0
Accepts filter info = All (λ (c : Condition). IsMetBy c info) filter.conditions
