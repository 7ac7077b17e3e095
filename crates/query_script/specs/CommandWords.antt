-- The words of the command line.
use Rattle.std.specs.Prelude.{◌≡◌, ℕ, ◌≤◌, true, false, List, [], ◌∷◌, ◌++◌, length, codes}
use Rattle.std.specs.Str.Parse.{IsNumeral, digits_value}
use Rattle.query_script.specs.declared.command_words.Words.{Words}

-- how many files come into the base at a time: one to four decimal digits, of a value from 1 to 4,096
pub record IsBatch (digits : List ℕ) (batch : ℕ) : Type 0 where
  pub decimal : IsNumeral 10 digits
  pub at_most_four : length digits ≤ 4
  pub value_is : digits_value 10 digits ≡ batch
  pub some : 1 ≤ batch
  pub few : batch ≤ 4096

-- the option `--batch` with this number, as two words or as one
pub data AsksForBatch (batch : ℕ) : List (List ℕ) → Type 0 where
  apart : (digits : List ℕ) → IsBatch digits batch →
      AsksForBatch batch (codes "--batch" ∷ digits ∷ [])
  joined : (digits : List ℕ) → IsBatch digits batch →
      AsksForBatch batch ((codes "--batch=" ++ digits) ∷ [])

-- the option `--serial`
abbrev pub serial_word : List (List ℕ)
serial_word = codes "--serial" ∷ []

-- These words are lawful, and this is what they say: each option stands at most once, in any order.
-- Without `--batch`, 64 files come into the base at a time.
pub data AreLawful : List (List ℕ) → Words → Type 0 where
  none : AreLawful [] (record { batch = 64; serial = false })
  serial : AreLawful serial_word (record { batch = 64; serial = true })
  batch : {words : List (List ℕ)} {batch : ℕ} → AsksForBatch batch words →
      AreLawful words (record { batch = batch; serial = false })
  serial_then_batch : {words : List (List ℕ)} {batch : ℕ} → AsksForBatch batch words →
      AreLawful (serial_word ++ words) (record { batch = batch; serial = true })
  batch_then_serial : {words : List (List ℕ)} {batch : ℕ} → AsksForBatch batch words →
      AreLawful (words ++ serial_word) (record { batch = batch; serial = true })
