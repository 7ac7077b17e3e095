-- SimpleText: how the value of a name, an event, a place, a date or a result is read.
use Rattle.std.specs.Prelude.{◌≢◌, ℕ, ◌<◌, ◌≤◌, List, [], ◌∷◌}
use Rattle.sgf_reader.specs.Bytes.{CR, LF, backslash, space}

-- A line break at the beginning of a text, and what follows it: CR LF, LF CR, LF or CR, the longer
-- form first.
pub data BreaksLine : List ℕ → List ℕ → Type 0 where
  carriage_return_line_feed : {rest : List ℕ} → BreaksLine (CR ∷ LF ∷ rest) rest
  line_feed_carriage_return : {rest : List ℕ} → BreaksLine (LF ∷ CR ∷ rest) rest
  line_feed : {rest : List ℕ} → ((more : List ℕ) → rest ≢ CR ∷ more) → BreaksLine (LF ∷ rest) rest
  carriage_return : {rest : List ℕ} → ((more : List ℕ) → rest ≢ LF ∷ more) →
      BreaksLine (CR ∷ rest) rest

-- how a byte that begins no line break is read: white space as a space, each other byte as it is
pub data IsReadAs : ℕ → ℕ → Type 0 where
  white : {b : ℕ} → b ≤ space → b ≢ LF → b ≢ CR → IsReadAs b space
  itself : {b : ℕ} → space < b → IsReadAs b b

-- The value is read as this text. A backslash before a line break is removed together with it. A
-- backslash before another byte is removed and the byte read. Every other line break becomes one
-- space. At the end of a text a backslash hides nothing and is removed, though no value of a
-- collection ends so.
pub data IsSimpleText : List ℕ → List ℕ → Type 0 where
  nothing : IsSimpleText [] []
  hidden_break : {value rest text : List ℕ} →
      BreaksLine value rest → IsSimpleText rest text → IsSimpleText (backslash ∷ value) text
  hidden_byte : {b c : ℕ} {rest text : List ℕ} →
      IsReadAs b c → IsSimpleText rest text → IsSimpleText (backslash ∷ b ∷ rest) (c ∷ text)
  line_break : {value rest text : List ℕ} →
      BreaksLine value rest → IsSimpleText rest text → IsSimpleText value (space ∷ text)
  byte : {b c : ℕ} {rest text : List ℕ} →
      b ≢ backslash → IsReadAs b c → IsSimpleText rest text → IsSimpleText (b ∷ rest) (c ∷ text)
  last_backslash : IsSimpleText (backslash ∷ []) []
