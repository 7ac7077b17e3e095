-- The words of the command line, as the library reads them one after another.
use Rattle.std.proofs.Common.{◌≡◌, ◌∙◌, Bool, true, false, List, [], ◌∷◌, ◌++◌, Option, Some, None, codes, append-nil, refl, sym, ap, subst}
use Rattle.std.specs.Prelude.{fold}
use Rattle.std.specs.List.{list_any}
use Rattle.std.specs.Str.{bytes_eq}
use Rattle.std.proofs.lemmas.Bool.{or_parts}
use Rattle.clap.specs.Lexer.{long_of, short_of}
use Rattle.clap.specs.Walk.{Held, Row, Text, Walk, finished, has_row, nothing_held, reacted, settled, walked}
use Rattle.clap.specs.Faults.{settle_fault, turn_fault, walk_fault}
use Rattle.clap.specs.Words.{first_of, one_of}
use Rattle.clap.specs.Faults.{fault_of}
use Rattle.clap.specs.Simple.{built, matches_of}
use Rattle.clap.proofs.FaultLemmas.{leaf_fault}
use Rattle.clap.proofs.OnLiterals.{clap_on_literals}
use Rattle.query_script.specs.CommandLine.{command_line, flag_text}
use Rattle.query_script.specs.CommandWords.{serial_word}
use Rattle.query_script.proofs.OptionWords.{IsOption, batch_rule, double_hyphen, first_of_both, held, idle_at, is_option, is_value, no_fault, rules, second_of_both, serial_rule, shape, waiting_at}
use Rattle.query_script.proofs.OptionWords as met

-- the option `--batch` with this text behind it
pub data IsBatchOption (value : Text) : List Text → Type 0 where
  apart : IsBatchOption value (codes "--batch" ∷ value ∷ [])
  joined : IsBatchOption value ((codes "--batch=" ++ value) ∷ [])

-- The words are these options: whether `--serial` is among them, and what stands behind `--batch`.
pub data AreOptions : List Text → Bool → Option Text → Type 0 where
  none : AreOptions [] false None
  serial : AreOptions serial_word true None
  batch : {words : List Text} {value : Text} → IsBatchOption value words → AreOptions words false (Some value)
  serial_then_batch : {words : List Text} {value : Text} → IsBatchOption value words → AreOptions (serial_word ++ words) true (Some value)
  batch_then_serial : {words : List Text} {value : Text} → IsBatchOption value words → AreOptions (words ++ serial_word) true (Some value)

abbrev pub no_hyphens : List Text → Type 0
no_hyphens words = list_any (λ word. bytes_eq word double_hyphen) words ≡ false

-- from here on these words are read without a fault
abbrev AreRead : Walk → List Text → Type 0
AreRead w words = no_hyphens words × (walk_fault shape [] w words ≡ []) × (settle_fault rules false (fold (walked rules []) w words).held ≡ [])

-- the values that are found from here on
abbrev rows_from : Walk → List Text → List Row
rows_from w words = finished rules (fold (walked rules []) w words).held

abbrev IsTurn : Walk → Text → List Text → Type 0
IsTurn w word rest = (bytes_eq word double_hyphen ≡ false) × (turn_fault shape [] w word ≡ []) × AreRead (walked rules [] w word) rest

turn : (w : Walk) (word : Text) (rest : List Text) → AreRead w (word ∷ rest) → IsTurn w word rest
unfolding walk_fault
turn w word rest read =
    let parts = or_parts (bytes_eq word double_hyphen) _ read.0 in
    (parts.0, first_of_both _ _ read.1, (parts.1, second_of_both (turn_fault shape [] w word) _ read.1, read.2))

ended : (w : Walk) → AreRead w [] → settle_fault rules false w.held ≡ []
ended w read = read.2

-- what is read behind `--batch`: a value, and then the rest
behind : (rows : List Row) (word : Text) (rest : List Text) → AreRead (waiting_at rows) (word ∷ rest)
    → AreRead (idle_at (held rows (Some (codes "batch", word ∷ [])))) rest × (rows_from (waiting_at rows) (word ∷ rest) ≡ rows_from (idle_at (held rows (Some (codes "batch", word ∷ [])))) rest)
behind rows word rest read =
    let now = turn (waiting_at rows) word rest read in
    let same = is_value word rows now.0 now.1 in
    (subst (λ w. AreRead w rest) same now.2, ap (λ w. rows_from w rest) same)

-- a value is wanted
wanted : (rows : List Row) → AreRead (waiting_at rows) [] → ⊥
wanted rows read = no_fault read.2

-- after a value that is one too many nothing can be read
refused_at : (rows : List Row) (value : Text) (words : List Text) → has_row (codes "batch") rows ≡ true → AreRead (idle_at (held rows (Some (codes "batch", value ∷ [])))) words → ⊥
refused_at rows value [] twice read = no_fault (rw twice at read.2)
refused_at rows value (word ∷ rest) twice read =
    let now = turn (idle_at (held rows (Some (codes "batch", value ∷ [])))) word rest read in
    by (is_option word rows (Some (codes "batch", value ∷ [])) now.0 now.1)
  where
    by : {read_word : Text} {next : Walk} → IsOption (held rows (Some (codes "batch", value ∷ []))) read_word next → ⊥
    by (met.serial e) = no_fault (rw twice at (first_of_both (settle_fault rules false (held rows (Some (codes "batch", value ∷ [])))) _ e))
    by (met.joined v e) = no_fault (rw twice at (first_of_both (settle_fault rules false (held rows (Some (codes "batch", value ∷ [])))) _ e))
    by (met.apart e) = no_fault (rw twice at e)

repeated_at : (rows : List Row) (words : List Text) → has_row (codes "batch") rows ≡ true → AreRead (waiting_at rows) words → ⊥
repeated_at rows [] twice read = wanted rows read
repeated_at rows (word ∷ rest) twice read = refused_at rows word rest twice (behind rows word rest read).0

-- after both options there is no word more
both_given : (rows : List Row) (pending : Option (Text × List Text)) (words : List Text) → has_row (codes "serial") (settled rules (held rows pending)).rows ≡ true
    → has_row (codes "batch") (settled rules (held rows pending)).rows ≡ true → AreRead (idle_at (held rows pending)) words → words ≡ []
both_given rows pending [] one two read = refl
both_given rows pending (word ∷ rest) one two read =
    let now = turn (idle_at (held rows pending)) word rest read in
    absurd (by (is_option word rows pending now.0 now.1) now.2)
  where
    by : {read_word : Text} {next : Walk} → IsOption (held rows pending) read_word next → AreRead next rest → ⊥
    by (met.serial e) more = no_fault (rw one at (second_of_both (settle_fault rules false (held rows pending)) _ e))
    by (met.joined v e) more = no_fault (rw two at (second_of_both (settle_fault rules false (held rows pending)) _ e))
    by (met.apart e) more = repeated_at (settled rules (held rows pending)).rows rest two more

-- What these words say, and the values that were found for it.
abbrev pub Say : List Text → List Row → Type 0
Say words rows = (given : Bool) × (value : Option Text) × AreOptions words given value
    × (one_of (codes "serial") rows ≡ Some (flag_text given)) × (first_of (codes "batch") rows ≡ value)

-- the last option was read
last : (h : Held) (words before : List Text) → words ≡ [] → Say before (rows_from (idle_at h) []) → Say (before ++ words) (rows_from (idle_at h) words)
last h words before end say = subst (λ (ws : List Text). Say (before ++ ws) (rows_from (idle_at h) ws)) (sym end) (subst (λ ws. Say ws (rows_from (idle_at h) [])) (sym (append-nil before)) say)

abbrev with_serial : Held
with_serial = reacted rules serial_rule [] nothing_held

abbrev with_batch : Held → Text → Held
with_batch h value = reacted rules batch_rule (value ∷ []) h

abbrev with_value : Held → Text → Held
with_value h value = held h.rows (Some (codes "batch", value ∷ []))

after_serial : (words : List Text) → AreRead (idle_at with_serial) words → Say (codes "--serial" ∷ words) (rows_from (idle_at with_serial) words)
after_serial [] read = (true, None, serial, refl, refl)
after_serial (word ∷ rest) read =
    let now = turn (idle_at with_serial) word rest read in
    by (is_option word with_serial.rows None now.0 now.1) now.2
  where
    number : (words : List Text) → AreRead (waiting_at with_serial.rows) words → Say (codes "--serial" ∷ codes "--batch" ∷ words) (rows_from (waiting_at with_serial.rows) words)
    number [] more = absurd (wanted with_serial.rows more)
    number (value ∷ others) more =
        let next = behind with_serial.rows value others more in
        subst (Say (codes "--serial" ∷ codes "--batch" ∷ value ∷ others)) (sym next.1)
        (last (with_value with_serial value) others (codes "--serial" ∷ codes "--batch" ∷ value ∷ [])
        (both_given with_serial.rows (Some (codes "batch", value ∷ [])) others refl refl next.0) (true, Some value, serial_then_batch apart, refl, refl))

    by : {read_word : Text} {next : Walk} → IsOption with_serial read_word next → AreRead next rest → Say (codes "--serial" ∷ read_word ∷ rest) (rows_from next rest)
    by (met.serial e) more = absurd (no_fault e)
    by (met.joined value e) more = last (with_batch with_serial value) rest (codes "--serial" ∷ (codes "--batch=" ++ value) ∷ [])
        (both_given (with_batch with_serial value).rows None rest refl refl more) (true, Some value, serial_then_batch joined, refl, refl)
    by (met.apart e) more = number rest more

after_joined : (value : Text) (words : List Text) → AreRead (idle_at (with_batch nothing_held value)) words → Say ((codes "--batch=" ++ value) ∷ words) (rows_from (idle_at (with_batch nothing_held value)) words)
after_joined value [] read = (false, Some value, batch joined, refl, refl)
after_joined value (word ∷ rest) read =
    let now = turn (idle_at (with_batch nothing_held value)) word rest read in
    by (is_option word (with_batch nothing_held value).rows None now.0 now.1) now.2
  where
    by : {read_word : Text} {next : Walk} → IsOption (with_batch nothing_held value) read_word next → AreRead next rest → Say ((codes "--batch=" ++ value) ∷ read_word ∷ rest) (rows_from next rest)
    by (met.serial e) more = last (reacted rules serial_rule [] (with_batch nothing_held value)) rest ((codes "--batch=" ++ value) ∷ codes "--serial" ∷ [])
        (both_given (reacted rules serial_rule [] (with_batch nothing_held value)).rows None rest refl refl more) (true, Some value, batch_then_serial joined, refl, refl)
    by (met.joined v e) more = absurd (no_fault e)
    by (met.apart e) more = absurd (repeated_at (with_batch nothing_held value).rows rest refl more)

after_apart : (value : Text) (words : List Text) → AreRead (idle_at (with_value nothing_held value)) words → Say (codes "--batch" ∷ value ∷ words) (rows_from (idle_at (with_value nothing_held value)) words)
after_apart value [] read = (false, Some value, batch apart, refl, refl)
after_apart value (word ∷ rest) read =
    let now = turn (idle_at (with_value nothing_held value)) word rest read in
    by (is_option word [] (Some (codes "batch", value ∷ [])) now.0 now.1) now.2
  where
    by : {read_word : Text} {next : Walk} → IsOption (with_value nothing_held value) read_word next → AreRead next rest → Say (codes "--batch" ∷ value ∷ read_word ∷ rest) (rows_from next rest)
    by (met.serial e) more = last (reacted rules serial_rule [] (with_value nothing_held value)) rest (codes "--batch" ∷ value ∷ codes "--serial" ∷ [])
        (both_given (reacted rules serial_rule [] (with_value nothing_held value)).rows None rest refl refl more) (true, Some value, batch_then_serial apart, refl, refl)
    by (met.joined v e) more = absurd (no_fault e)
    by (met.apart e) more = absurd (repeated_at (settled rules (with_value nothing_held value)).rows rest refl more)

from_start : (words : List Text) → AreRead (idle_at nothing_held) words → Say words (rows_from (idle_at nothing_held) words)
from_start [] read = (false, None, none, refl, refl)
from_start (word ∷ rest) read =
    let now = turn (idle_at nothing_held) word rest read in
    by (is_option word [] None now.0 now.1) now.2
  where
    number : (words : List Text) → AreRead (waiting_at []) words → Say (codes "--batch" ∷ words) (rows_from (waiting_at []) words)
    number [] more = absurd (wanted [] more)
    number (value ∷ others) more =
        let next = behind [] value others more in
        subst (Say (codes "--batch" ∷ value ∷ others)) (sym next.1) (after_apart value others next.0)

    by : {read_word : Text} {next : Walk} → IsOption nothing_held read_word next → AreRead next rest → Say (read_word ∷ rest) (rows_from next rest)
    by (met.serial e) more = after_serial rest more
    by (met.joined value e) more = after_joined value rest more
    by (met.apart e) more = number rest more

-- where the library finds no fault, the words are options
pub options_of : (words : List Text) → no_hyphens words → fault_of command_line words ≡ [] → Say words (matches_of command_line words)
options_of words hyphens is_free =
    let level = sym (leaf_fault (built command_line) nothing_held words refl) ∙ is_free in
    from_start words (hyphens, first_of_both _ _ level, first_of_both _ _ (second_of_both (walk_fault shape [] (idle_at nothing_held) words) _ level))

-- The library finds no fault in these words, and these values.
abbrev pub AreTaken : List Text → Bool → Option Text → Type 0
AreTaken words given value = (fault_of command_line words ≡ []) × (one_of (codes "serial") (matches_of command_line words) ≡ Some (flag_text given))
    × (first_of (codes "batch") (matches_of command_line words) ≡ value)

-- options are taken where what stands behind `--batch` doesn't begin with a hyphen
module _ (value : Text) (other : bytes_eq value double_hyphen ≡ false) (long : long_of value ≡ None) (short : short_of value ≡ None) where
  pub taken_batch : {words : List Text} → IsBatchOption value words → AreTaken words false (Some value)
  unfolding clap_on_literals
  taken_batch apart = rw (other, long, short) (refl, refl, refl)
  taken_batch joined = (refl, refl, refl)

  pub taken_after_serial : {words : List Text} → IsBatchOption value words → AreTaken (serial_word ++ words) true (Some value)
  unfolding clap_on_literals
  taken_after_serial apart = rw (other, long, short) (refl, refl, refl)
  taken_after_serial joined = (refl, refl, refl)

  pub taken_before_serial : {words : List Text} → IsBatchOption value words → AreTaken (words ++ serial_word) true (Some value)
  unfolding clap_on_literals
  taken_before_serial apart = rw (other, long, short) (refl, refl, refl)
  taken_before_serial joined = (refl, refl, refl)

pub taken_none : AreTaken [] false None
unfolding clap_on_literals
taken_none = (refl, refl, refl)

pub taken_serial : AreTaken serial_word true None
unfolding clap_on_literals
taken_serial = (refl, refl, refl)
