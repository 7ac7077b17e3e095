-- The words of a line.
use Rattle.std.specs.Prelude.{◌≡◌, ◌≢◌, ◌⊎◌, ◌||◌, ◌==◌, ℕ, ◌≤◌, List, [], ◌∷◌, ◌++◌, length, All, if◌then◌else◌}
use Rattle.std.specs.List.{flat_map}
use Rattle.std.specs.Str.Parse.{IsNumeral, digits_value}
use Rattle.query_script.specs.declared.word.Word.{Word}
use Rattle.query_script.specs.declared.word.Word.TheVariants as word
use Rattle.query_script.specs.Bytes.{space, tab, quote, backslash}

-- a space or a tab
abbrev pub IsBlank : ℕ → Type 0
IsBlank c = (c ≡ space) ⊎ (c ≡ tab)

-- spaces and tabs alone
abbrev pub AreBlanks : List ℕ → Type 0
AreBlanks bytes = All IsBlank bytes

-- a byte of a bare word: no space, no tab and no `"`
abbrev pub IsBareByte : ℕ → Type 0
IsBareByte c = (c ≢ space) × (c ≢ tab) × (c ≢ quote)

-- how a byte stands between quotes: a `\` before each `"` and each `\`
abbrev pub escaped_byte : ℕ → List ℕ
escaped_byte c = if (c == quote) || (c == backslash) then backslash ∷ c ∷ [] else c ∷ []

-- what stands between the quotes of a quoted word
abbrev pub escaped : List ℕ → List ℕ
escaped bytes = flat_map escaped_byte bytes

-- a word as it stands in a line
abbrev pub word_text : Word → List ℕ
word_text (word.Bare bytes) = bytes
word_text (word.Quoted bytes) = quote ∷ escaped bytes ++ quote ∷ []

-- a bare word has a byte, and none that would end it or begin a quoted word; a quoted one may have
-- any bytes
abbrev pub IsWord : Word → Type 0
IsWord (word.Bare bytes) = (1 ≤ length bytes) × All IsBareByte bytes
IsWord (word.Quoted bytes) = Unit {0}

-- the bytes of a word, without its quotes
abbrev pub bytes_of : Word → List ℕ
bytes_of (word.Bare bytes) = bytes
bytes_of (word.Quoted bytes) = bytes

-- a word ends here: at the end of the line, or before a space or a tab
abbrev pub IsWordEnd : List ℕ → Type 0
IsWordEnd [] = Unit {0}
IsWordEnd (c ∷ rest) = IsBlank c

-- The words of a line: spaces and tabs may stand before the first and behind the last one, and at
-- least one of them stands between two.
pub data AreWords : List ℕ → List Word → Type 0 where
  none : {blanks : List ℕ} → AreBlanks blanks → AreWords blanks []
  one_more : {words : List Word} (blanks rest : List ℕ) (w : Word) → AreBlanks blanks → IsWord w →
      IsWordEnd rest → AreWords rest words → AreWords (blanks ++ (word_text w ++ rest)) (w ∷ words)

-- a bare word of these letters
abbrev pub bare : List ℕ → Word
bare bytes = word.Bare bytes

-- The bare word is a number of this value: one to ten decimal digits.
pub record IsNumber (w : Word) (value : ℕ) : Type 0 where
  pub digits : List ℕ
  pub word : w ≡ bare digits
  pub decimal : IsNumeral 10 digits
  pub at_most_ten : length digits ≤ 10
  pub value_is : digits_value 10 digits ≡ value
