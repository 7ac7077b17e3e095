-- Dates as the private functions read them, part by part.
use Rattle.std.specs.Prelude.{◌≡◌, ℕ, List, [], ◌∷◌}
use Rattle.info_filter.specs.Day.{IsNumberOfDigits, hyphen}

-- a text that begins with the four digits of a year, and what follows them
abbrev pub BeginsWithYear : List ℕ → ℕ → List ℕ → Type 0
BeginsWithYear text n rest =
    (a : ℕ) × (b : ℕ) × (c : ℕ) × (d : ℕ)
    × (text ≡ a ∷ b ∷ c ∷ d ∷ rest) × IsNumberOfDigits (a ∷ b ∷ c ∷ d ∷ []) 4 n

-- a text that begins with a hyphen and the two digits of a month or a day, and what follows them
abbrev pub BeginsWithNumber : List ℕ → ℕ → List ℕ → Type 0
BeginsWithNumber text n rest =
    (a : ℕ) × (b : ℕ) × (text ≡ hyphen ∷ a ∷ b ∷ rest) × IsNumberOfDigits (a ∷ b ∷ []) 2 n

-- the same, or the end of the text, which stands for 1
pub data BeginsWithPart (text : List ℕ) : ℕ → List ℕ → Type 0 where
  missing : text ≡ [] → BeginsWithPart text 1 []
  there : {n : ℕ} {rest : List ℕ} → BeginsWithNumber text n rest → BeginsWithPart text n rest
