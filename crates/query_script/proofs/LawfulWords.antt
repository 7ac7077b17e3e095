-- Lawful words of the command line, and the options that the library finds in them.
use Rattle.std.proofs.Common.{◌≡◌, ◌∙◌, ℕ, Bool, true, false, List, [], ◌∷◌, ◌++◌, length, Option, Some, None, Result, Ok, Err, codes, inl, inr, refl, sym, ap, ap₂, subst, arith, true≢false}
use Rattle.std.specs.Prelude.{◌==◌, is_ok}
use Rattle.std.specs.Str.{bytes_eq}
use Rattle.std.proofs.lemmas.Bool.{ne_eqb}
use Rattle.std.proofs.lemmas.Str.Parse.{digit_from_value}
use Rattle.clap.specs.Lexer.{long_of, short_of}
use Rattle.clap.specs.Faults.{fault_of}
use Rattle.clap.specs.Kinds.{FailsBy, IsAmong, Kinds}
use Rattle.clap.specs.Simple.{matches_of}
use Rattle.clap.specs.Values.{kind_of}
use Rattle.clap.specs.Walk.{Row, Text, first_of, one_of}
use Rattle.clap.specs.declared.error.Error.{Error}
use Rattle.clap.specs.declared.error.kind.ErrorKind.{ErrorKind}
use Rattle.clap.specs.declared.error.kind.ErrorKind.TheVariants as kind
use Rattle.query_script.specs.declared.command_words.Words.{Words}
use Rattle.query_script.specs.declared.command_words.WordsError.{WordsError}
use Rattle.query_script.specs.declared.command_words.WordsError.TheVariants.{BadWords, NoMemory}
use Rattle.query_script.specs.CommandLine.{SayOptions, SaysBatch, command_line, flag_text}
use Rattle.query_script.specs.CommandWords.{AreLawful, AsksForBatch, IsBatch, serial_word}
use Rattle.query_script.specs.CommandWords as lawful
use Rattle.query_script.proofs.OptionLists.{AreOptions, AreTaken, IsBatchOption, no_hyphens, options_of, taken_after_serial, taken_batch, taken_before_serial, taken_none, taken_serial}
use Rattle.query_script.proofs.OptionLists as found
use Rattle.query_script.proofs.OptionWords.{double_hyphen}

-- a number doesn't begin with a hyphen
pub record IsPlain (text : Text) : Type 0 where
  pub other : bytes_eq text double_hyphen ≡ false
  pub long : long_of text ≡ None
  pub short : short_of text ≡ None

plain_from : (c : ℕ) (cs : Text) → (c == 45) ≡ false → IsPlain (c ∷ cs)
plain_from c cs e = record { other = rw e refl; long = rw e refl; short = rw e refl }

number_is_plain : (digits : Text) (batch : ℕ) → IsBatch digits batch → IsPlain digits
number_is_plain [] batch is = absurd (omega (arith, is.decimal.0))
number_is_plain (c ∷ cs) batch is =
    let range = digit_from_value c is.decimal.1.0 in
    plain_from c cs (ne_eqb c 45 (λ e. omega (arith, range.0, range.1)))

option_of : {batch : ℕ} {words : List Text} → AsksForBatch batch words → (digits : Text) × IsBatch digits batch × IsBatchOption digits words
option_of (lawful.apart digits is) = (digits, is, found.apart)
option_of (lawful.joined digits is) = (digits, is, found.joined)

-- the library takes lawful words, and finds what they say
pub lawful_taken : {words : List Text} {read : Words} → AreLawful words read → (value : Option Text) × AreTaken words read.serial value × SaysBatch value read.batch
lawful_taken lawful.none = (None, taken_none, refl)
lawful_taken lawful.serial = (None, taken_serial, refl)
lawful_taken (lawful.batch asks) =
    let o = option_of asks in
    let plain = number_is_plain o.0 _ o.1 in
    (Some o.0, taken_batch o.0 plain.other plain.long plain.short o.2, o.1)
lawful_taken (lawful.serial_then_batch asks) =
    let o = option_of asks in
    let plain = number_is_plain o.0 _ o.1 in
    (Some o.0, taken_after_serial o.0 plain.other plain.long plain.short o.2, o.1)
lawful_taken (lawful.batch_then_serial asks) =
    let o = option_of asks in
    let plain = number_is_plain o.0 _ o.1 in
    (Some o.0, taken_before_serial o.0 plain.other plain.long plain.short o.2, o.1)

-- none of them is `--`
option_has_none : {words : List Text} (batch : ℕ) → AsksForBatch batch words → (no_hyphens words) × (no_hyphens (serial_word ++ words)) × (no_hyphens (words ++ serial_word))
option_has_none batch (lawful.apart digits is) = let plain = number_is_plain digits batch is in rw plain.other (refl, refl, refl)
option_has_none batch (lawful.joined digits is) = (refl, refl, refl)

pub lawful_has_none : {words : List Text} {read : Words} → AreLawful words read → no_hyphens words
lawful_has_none lawful.none = refl
lawful_has_none lawful.serial = refl
lawful_has_none (lawful.batch asks) = (option_has_none _ asks).0
lawful_has_none (lawful.serial_then_batch asks) = (option_has_none _ asks).1
lawful_has_none (lawful.batch_then_serial asks) = (option_has_none _ asks).2

asks_of : {words : List Text} (digits : Text) (batch : ℕ) → IsBatchOption digits words → IsBatch digits batch → AsksForBatch batch words
asks_of digits batch found.apart is = lawful.apart digits is
asks_of digits batch found.joined is = lawful.joined digits is

-- options with a number where one is wanted are lawful words
options_lawful : {words : List Text} {given : Bool} {value : Option Text} (batch : ℕ) → AreOptions words given value → SaysBatch value batch → AreLawful words (record { batch = batch; serial = given })
options_lawful batch found.none is = subst (λ b. AreLawful [] (record { batch = b; serial = false })) (sym is) lawful.none
options_lawful batch found.serial is = subst (λ b. AreLawful serial_word (record { batch = b; serial = true })) (sym is) lawful.serial
options_lawful batch (found.batch o) is = lawful.batch (asks_of _ batch o is)
options_lawful batch (found.serial_then_batch o) is = lawful.serial_then_batch (asks_of _ batch o is)
options_lawful batch (found.batch_then_serial o) is = lawful.batch_then_serial (asks_of _ batch o is)

pub say_lawful : (words : List Text) (given : Bool) (value : Option Text) (read : Words) → AreOptions words given value → read.serial ≡ given → SaysBatch value read.batch → AreLawful words read
say_lawful words given value read are same is = subst (λ s. AreLawful words (record { batch = read.batch; serial = s })) (sym same) (options_lawful read.batch are is)

-- what is read of the values that the library found
module _ (words : List Text) (rows : List Row) (same : rows ≡ matches_of command_line words) where
  pub read_is_lawful : (read : Words) → no_hyphens words → fault_of command_line words ≡ [] → SayOptions rows read → AreLawful words read
  read_is_lawful read hyphens is_free says =
      let found = options_of words hyphens is_free in
      say_lawful words found.0 found.1 read found.2 (says.serial found.0 (ap (one_of (codes "serial")) same ∙ found.3))
      (subst (λ o. SaysBatch o read.batch) (ap (first_of (codes "batch")) same ∙ found.4) says.batch)

  pub unread_is_unlawful : ((batch : ℕ) → ¬ SaysBatch (first_of (codes "batch") rows) batch) → (read : Words) → ¬ AreLawful words read
  unread_is_unlawful unsaid read is =
      let taken = lawful_taken is in
      unsaid read.batch (subst (λ o. SaysBatch o read.batch) (sym (ap (first_of (codes "batch")) same ∙ taken.1.2)) taken.2)

-- the library's faults, for a result
pub found_no_fault : {T : Type 0} (kinds : Kinds) (r : Result T Error) (found : T) → FailsBy kinds r → r ≡ Ok found → kinds ≡ []
found_no_fault kinds (Ok x) found fails is = fails
found_no_fault kinds (Err e) found fails is = absurd (true≢false (sym (ap is_ok is)))

none_among : (kinds : Kinds) (k : ErrorKind) → kinds ≡ [] → IsAmong k kinds → ⊥
none_among kinds k none among = subst (IsAmong k) none among

abbrev error_or : {T : Type 0} → Error → Result T Error → Error
error_or e (Ok x) = e
error_or e (Err d) = d

pub refused_is_unlawful : {T : Type 0} (words : List Text) (r : Result T Error) (e : Error) → FailsBy (fault_of command_line words) r → r ≡ Err e → (kind_of e ≡ kind.OutOfMemory → ⊥) → (read : Words) → ¬ AreLawful words read
refused_is_unlawful words (Ok x) e fails is other read lawful = absurd (true≢false (ap is_ok is))
refused_is_unlawful words (Err d) e fails is other read lawful = elim fails [
  | inl memory ↦ other (ap kind_of (sym same) ∙ memory)
  | inr among ↦ none_among _ _ (lawful_taken lawful).1.0 among
]
  where
    same : d ≡ e
    same = ap (error_or d) is

-- a flag by the text that was found for it
pub flag_is : (text : Option Text) (flag : Bool) → (text ≡ Some (codes "true") → flag ≡ true) → (text ≡ Some (codes "false") → flag ≡ false) → (given : Bool) → text ≡ Some (flag_text given) → flag ≡ given
flag_is text flag one other true is = one is
flag_is text flag one other false is = other is

abbrev refusal_in : {T : Type 0} → WordsError → Result T WordsError → WordsError
refusal_in e (Ok x) = e
refusal_in e (Err d) = d

abbrev is_bad : WordsError → Bool
is_bad BadWords = true
is_bad NoMemory = false

memory_differs : NoMemory ≡ BadWords → ⊥
memory_differs e = true≢false (sym (ap is_bad e))

-- want of memory is no fault of the words
pub other_error : {T : Type 0} {refusal : WordsError} → ◌≡◌ {A = Result T WordsError} (Err refusal) (Err BadWords) → refusal ≡ NoMemory → ⊥
other_error {T = T} is memory = memory_differs (sym memory ∙ ap (refusal_in {T = T} BadWords) is)

-- what lawful words say
one_number : (value : Option Text) (one other : ℕ) → SaysBatch value one → SaysBatch value other → one ≡ other
one_number None one other a b = a ∙ sym b
one_number (Some digits) one other a b = sym a.value_is ∙ b.value_is

no_letter : ◌≡◌ {A = ℕ} 4 5 → ⊥
no_letter e = absurd (omega arith)

one_flag : (one other : Bool) → flag_text one ≡ flag_text other → one ≡ other
one_flag true true e = refl
one_flag true false e = absurd (no_letter (ap length e))
one_flag false true e = absurd (no_letter (sym (ap length e)))
one_flag false false e = refl

abbrev flag_in : Option Text → Text
flag_in (Some text) = text
flag_in None = []

pub say_one_thing : (words : List Text) (one other : Words) → AreLawful words one → AreLawful words other → one ≡ other
say_one_thing words one other a b =
    let x = lawful_taken a in
    let y = lawful_taken b in
    let serial : one.serial ≡ other.serial = one_flag one.serial other.serial (ap flag_in (sym x.1.1 ∙ y.1.1)) in
    let same : x.0 ≡ y.0 = sym x.1.2 ∙ y.1.2 in
    let batch : one.batch ≡ other.batch = one_number y.0 one.batch other.batch (subst (λ o. SaysBatch o one.batch) same x.2) y.2 in
    ap₂ (λ n s. record { batch = n; serial = s }) batch serial
