-- Definitions of the private functions that make several searches.
use Rattle.std.specs.Prelude.{◌≡◌, ℕ, ◌<◌, ◌++◌, List, Result, Ok, IfOk, length, map, slice_index_or}
use Rattle.kb_geometry.specs.declared.memory.NoMemory.{NoMemory}
use Rattle.search_engine.specs.declared.answer.Answer.{Answer}
use Rattle.search_engine.specs.declared.several.Asked.{Asked}
use Rattle.search_engine.specs.Answers.{IsAnswerOf}

-- what is made of a search: its answer, unless memory ran out there
abbrev pub Made : Type 0
Made = Result Answer NoMemory

-- the answer, which there is
abbrev pub made_of : Answer → Made
made_of answer = Ok answer

-- For each of the searches something was made, in order, and it is the search's answer, if there was
-- memory for it.
pub record AreMade (asked : List Asked) (made : List Made) : Type 0 where
  pub as_many : length made ≡ length asked
  pub each : (i : ℕ) (d : Made) (a : Asked) → i < length asked →
      IfOk (slice_index_or made i d) (λ answer. IsAnswerOf (slice_index_or asked i a) answer)

-- The list of answers grows by all that were made, and there was memory for each.
pub record AreAllAdded (old : List Answer) (made : List Made) (new : List Answer) : Type 0 where
  pub more : List Answer
  pub good : made ≡ map made_of more
  pub added : new ≡ old ++ more
