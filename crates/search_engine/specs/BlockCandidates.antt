-- Words with a bit for each game of a block, and candidates: definitions of the private functions that
-- search a block.
use Rattle.std.specs.Prelude.{◌≡◌, ◌≢◌, ℕ, ◌<◌, ◌≤◌, ◌⊎◌, ◌↔◌, List, Some, slice_index_or}
use Rattle.std.specs.Int.{bit_at}
use Rattle.std.specs.List.{slice_get}
use Rattle.node_position.specs.Games.{Game}
use Rattle.info_filter.specs.declared.filter.Filter.{Filter}
use Rattle.info_filter.specs.Filter.{Accepts}
use Rattle.candidate_sieve.specs.declared.candidates.Candidate.{Candidate}

-- ---- words with a bit for each game

-- the bit of a place is set, if it is to be set, and the others are as before
pub record IsWithBit (before at : ℕ) (set : Type 0) (after : ℕ) : Type 0 where
  pub here : (bit_at after at ≡ 1) ↔ (set ⊎ (bit_at before at ≡ 1))
  pub others : (j : ℕ) → j ≢ at → bit_at after j ≡ bit_at before j

-- of the games behind the first `skip`, up to the 64th, exactly those that the filter accepts have
-- their bits set
abbrev pub AreAccepted : Filter → ℕ → List Game → ℕ → Type 0
AreAccepted filter skip games word = (g : ℕ) (game : Game) → skip ≤ g → g < 64 →
    slice_get games g ≡ Some game → (bit_at word g ≡ 1) ↔ Accepts filter game.tree.info

-- the place is that of the first bit of a word from another place on
pub record IsNextBit (word from at : ℕ) : Type 0 where
  pub below : at < 64
  pub from_on : from ≤ at
  pub set : bit_at word at ≡ 1
  pub first : (g : ℕ) → from ≤ g → g < at → bit_at word g ≡ 0

-- ---- candidates

-- no candidate at all
abbrev pub no_candidate : Candidate
no_candidate = record { placement = 0; base = 0; class = 0; games = 0 }

-- the candidate at a place of the list
abbrev pub candidate_at : List Candidate → ℕ → Candidate
candidate_at found j = slice_index_or found j no_candidate
