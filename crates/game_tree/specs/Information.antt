-- The information of a game.
use Rattle.std.specs.Prelude.{ℕ, ◌≤◌, List, [], All}
use Rattle.sgf_reader.specs.Bytes.{space}

-- the names of the players, and the event, place, date and result, as bytes
pub record Information : Type 0 where
  pub black : List ℕ
  pub white : List ℕ
  pub event : List ℕ
  pub place : List ℕ
  pub date : List ℕ
  pub outcome_text : List ℕ

-- a game of which nothing is told
abbrev pub no_information : Information
no_information = record {
  black = [];
  white = [];
  event = [];
  place = [];
  date = [];
  outcome_text = [];
}

-- a text without control characters: no byte is below the space
abbrev pub HasNoControls : List ℕ → Type 0
HasNoControls text = All (λ (b : ℕ). space ≤ b) text

-- no text of the information has a control character
pub record HasSimpleTexts (info : Information) : Type 0 where
  pub black : HasNoControls info.black
  pub white : HasNoControls info.white
  pub event : HasNoControls info.event
  pub place : HasNoControls info.place
  pub date : HasNoControls info.date
  pub outcome_text : HasNoControls info.outcome_text
