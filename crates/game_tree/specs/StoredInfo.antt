-- How an information is stored: definitions for the private functions that read it and build it.
use Rattle.std.specs.Prelude.{◌≡◌, ℕ, ◌≤◌, List, ◌++◌, length}
use Rattle.std.specs.List.{between}
use Rattle.game_tree.specs.declared.info.TextEnds.{TextEnds}
use Rattle.game_tree.specs.Information.{Information}

-- the texts that stand in a block, by their ends
abbrev pub shown_info : List ℕ → TextEnds → Information
shown_info texts ends = record {
  black = between 0 ends.black texts;
  white = between ends.black ends.white texts;
  event = between ends.white ends.event texts;
  place = between ends.event ends.place texts;
  date = between ends.place ends.date texts;
  outcome_text = between ends.date (length texts) texts;
}

-- no text ends before the one in front of it, and the last begins within a block of this length
pub record AreTextEnds (ends : TextEnds) (whole : ℕ) : Type 0 where
  pub white : ends.black ≤ ends.white
  pub event : ends.white ≤ ends.event
  pub place : ends.event ≤ ends.place
  pub date : ends.place ≤ ends.date
  pub within : ends.date ≤ whole

-- a block has grown at its end by a text of which this holds
pub record HasGrownBy (P : List ℕ → Type 0) (before after : List ℕ) : Type 0 where
  pub text : List ℕ
  pub grown : after ≡ before ++ text
  pub holds : P text
