-- One word of the command line, as the library reads it.
use Rattle.std.proofs.Common.{◌≡◌, ◌≢◌, ◌∙◌, ◌||◌, ℕ, suc, zero, Bool, true, false, cond, List, [], ◌∷◌, ◌++◌, length, Option, Some, None, codes, refl, sym, ap, subst, arith}
use Rattle.std.specs.Prelude.{slice_get}
use Rattle.std.specs.Str.{bytes_eq, chars}
use Rattle.std.proofs.lemmas.Slice.Eq.{bytes_eq-Decides}
use Rattle.clap.specs.Lexer.{long_of, short_of}
use Rattle.clap.specs.Kinds.{Kinds, or_else}
use Rattle.clap.specs.Simple.{Shape, built, filled}
use Rattle.clap.specs.Walk.{Held, Row, Rule, Step, Text, Waiting, Walk, after_flag, after_step, bundle_met, idle, long_met, long_or_other, option, plain, reacted, settled, short_or_plain, walk_from, walked}
use Rattle.clap.specs.Faults.{flag_word_fault, flags_fault, long_fault, react_fault, settle_fault, step_fault, turn_fault}
use Rattle.query_script.specs.CommandLine.{batch_option, command_line, serial_option}
use Rattle.query_script.proofs.LongWords.{behind_hyphens, long_is}

abbrev pub shape : Shape
shape = (built command_line).top

abbrev pub rules : List Rule
rules = shape.rules

abbrev pub serial_rule : Rule
serial_rule = filled serial_option

abbrev pub batch_rule : Rule
batch_rule = filled batch_option

abbrev pub double_hyphen : Text
double_hyphen = codes "--"

abbrev pub held : List Row → Option (Text × List Text) → Held
held rows pending = record { rows = rows; pending = pending; skip = 0 }

-- where the next word is an option
abbrev pub idle_at : Held → Walk
idle_at h = walk_from h

-- where the next word is the number of `--batch`
abbrev pub waiting_at : List Row → Walk
waiting_at rows = record (walk_from (held rows (Some (codes "batch", [])))) { waiting = option (codes "batch") }

-- What an option makes of the walk.
pub data IsOption (h : Held) : Text → Walk → Type 0 where
  serial : react_fault rules false serial_rule [] h ≡ [] → IsOption h (codes "--serial") (idle_at (reacted rules serial_rule [] h))
  joined : (value : Text) → react_fault rules false batch_rule (value ∷ []) h ≡ [] → IsOption h (codes "--batch=" ++ value) (idle_at (reacted rules batch_rule (value ∷ []) h))
  apart : settle_fault rules false h ≡ [] → IsOption h (codes "--batch") (waiting_at (settled rules h).rows)

pub no_fault : {X : Type 0} {x : X} {xs : List X} → x ∷ xs ≡ [] → ⊥
no_fault e = let bad : suc _ ≡ 0 = ap length e in absurd (omega arith)

pub first_of_both : (a b : Kinds) → or_else a b ≡ [] → a ≡ []
first_of_both [] b e = refl
first_of_both (k ∷ ks) b e = absurd (no_fault e)

pub second_of_both : (a b : Kinds) → or_else a b ≡ [] → b ≡ []
second_of_both [] b e = e
second_of_both (k ∷ ks) b e = absurd (no_fault e)

-- the option of a name
abbrev named : Bool → Bool → Option Rule
named is_serial is_batch = cond (is_serial || false) (Some serial_rule) (cond (is_batch || false) (Some batch_rule) None)

module _ (word : Text) (rows : List Row) (pending : Option (Text × List Text)) where
  abbrev here : Held
  here = held rows pending

  abbrev long_step : Option Rule → Option Text → Held × Step
  long_step found value = after_flag rules idle word (long_met rules found value here).0 (long_met rules found value here).1

  abbrev long_turn : Option Rule → Option Text → Kinds
  long_turn found value = or_else (long_fault rules false found value here) (step_fault shape 1 (long_step found value).0 (long_step found value).1)

  abbrev long_next : Option Rule → Option Text → Walk
  long_next found value = after_step rules word (idle_at here) (long_step found value).0 (long_step found value).1

  is_long_option : (name : Text) (value : Option Text) → word ≡ 45 ∷ 45 ∷ behind_hyphens name value → (is_serial is_batch : Bool)
      → bytes_eq (codes "serial") name ≡ is_serial → bytes_eq (codes "batch") name ≡ is_batch
      → long_turn (named is_serial is_batch) value ≡ [] → IsOption here word (long_next (named is_serial is_batch) value)
  is_long_option name (Some v) whole true b is_serial is_batch none = absurd (no_fault none)
  is_long_option name None whole true b is_serial is_batch none =
      let same : word ≡ codes "--serial" = whole ∙ ap (λ n. 45 ∷ 45 ∷ n) (sym ((bytes_eq-Decides (codes "serial") name).0 is_serial)) in
      subst (λ w. IsOption here w (idle_at (reacted rules serial_rule [] here))) (sym same) (serial (first_of_both _ _ none))
  is_long_option name (Some v) whole false true is_serial is_batch none =
      let same : word ≡ codes "--batch=" ++ v = whole ∙ ap (λ n. 45 ∷ 45 ∷ (n ++ 61 ∷ v)) (sym ((bytes_eq-Decides (codes "batch") name).0 is_batch)) in
      subst (λ w. IsOption here w (idle_at (reacted rules batch_rule (v ∷ []) here))) (sym same) (joined v (first_of_both _ _ none))
  is_long_option name None whole false true is_serial is_batch none =
      let same : word ≡ codes "--batch" = whole ∙ ap (λ n. 45 ∷ 45 ∷ n) (sym ((bytes_eq-Decides (codes "batch") name).0 is_batch)) in
      subst (λ w. IsOption here w (waiting_at (settled rules here).rows)) (sym same) (apart (first_of_both _ _ none))
  is_long_option name value whole false false is_serial is_batch none = absurd (no_fault none)

  -- a word that begins with one hyphen, or with none: no option has such a name, and no value is asked for
  abbrev other_turn : Option Text → Kinds
  other_turn flags = or_else (flag_word_fault rules false None word here) (step_fault shape 1 (short_or_plain rules idle word flags here).0 (short_or_plain rules idle word flags here).1)

  is_no_bundle : (flags : Text) (room : ℕ) (first : Option ℕ) → slice_get (chars flags) 0 ≡ first
      → or_else (flags_fault rules false room flags 0 here) (step_fault shape 1 (after_flag rules idle word (bundle_met rules room flags 0 plain here).0 (bundle_met rules room flags 0 plain here).1).0 (after_flag rules idle word (bundle_met rules room flags 0 plain here).0 (bundle_met rules room flags 0 plain here).1).1) ≢ []
  unfolding flags_fault bundle_met
  is_no_bundle flags zero first is e = absurd (no_fault e)
  is_no_bundle flags (suc room) None is e = absurd (no_fault (rw is at e))
  is_no_bundle flags (suc room) (Some x) is e = absurd (no_fault (rw is at e))

  is_no_other : (flags : Option Text) → short_of word ≡ flags → other_turn flags ≢ []
  is_no_other None is e = absurd (no_fault (rw is at e))
  is_no_other (Some flags) is e = is_no_bundle flags (length flags) (slice_get (chars flags) 0) refl (rw is at e)

  is_option_of : (long : Option (Text × Option Text)) → long_of word ≡ long
      → or_else (flag_word_fault rules false long word here) (step_fault shape 1 (long_or_other rules idle word long here).0 (long_or_other rules idle word long here).1) ≡ []
      → IsOption here word (after_step rules word (idle_at here) (long_or_other rules idle word long here).0 (long_or_other rules idle word long here).1)
  is_option_of None is none = absurd (is_no_other (short_of word) refl none)
  is_option_of (Some p) is none = is_long_option p.0 p.1 (long_is word p.0 p.1 is) (bytes_eq (codes "serial") p.0) (bytes_eq (codes "batch") p.0) refl refl none

  -- where no fault is found, a word is an option
  pub is_option : bytes_eq word double_hyphen ≡ false → turn_fault shape [] (idle_at here) word ≡ [] → IsOption here word (walked rules [] (idle_at here) word)
  unfolding walked
  is_option other none = rw other (is_option_of (long_of word) refl (rw other at none))

-- behind `--batch`
module _ (word : Text) (rows : List Row) where
  abbrev wanting : Held
  wanting = held rows (Some (codes "batch", []))

  abbrev number : Waiting
  number = option (codes "batch")

  abbrev given : Walk
  given = idle_at (held rows (Some (codes "batch", word ∷ [])))

  is_bundle_value : (flags : Text) (room : ℕ) (first : Option ℕ) → slice_get (chars flags) 0 ≡ first
      → or_else (flags_fault rules false room flags 0 wanting) (step_fault shape 1 (after_flag rules number word (bundle_met rules room flags 0 plain wanting).0 (bundle_met rules room flags 0 plain wanting).1).0 (after_flag rules number word (bundle_met rules room flags 0 plain wanting).0 (bundle_met rules room flags 0 plain wanting).1).1) ≡ []
      → after_step rules word (waiting_at rows) (after_flag rules number word (bundle_met rules room flags 0 plain wanting).0 (bundle_met rules room flags 0 plain wanting).1).0 (after_flag rules number word (bundle_met rules room flags 0 plain wanting).0 (bundle_met rules room flags 0 plain wanting).1).1 ≡ given
  unfolding flags_fault bundle_met
  is_bundle_value flags zero first is e = refl
  is_bundle_value flags (suc room) None is e = rw is refl
  is_bundle_value flags (suc room) (Some x) is e = absurd (no_fault (rw is at e))

  is_plain_value : (flags : Option Text) → short_of word ≡ flags
      → or_else (flag_word_fault rules false None word wanting) (step_fault shape 1 (short_or_plain rules number word flags wanting).0 (short_or_plain rules number word flags wanting).1) ≡ []
      → after_step rules word (waiting_at rows) (short_or_plain rules number word flags wanting).0 (short_or_plain rules number word flags wanting).1 ≡ given
  is_plain_value None is e = refl
  is_plain_value (Some flags) is e = is_bundle_value flags (length flags) (slice_get (chars flags) 0) refl (rw is at e)

  abbrev step_behind : Option Rule → Option Text → Held × Step
  step_behind found value = after_flag rules number word (long_met rules found value wanting).0 (long_met rules found value wanting).1

  is_no_long : (is_serial is_batch : Bool) (value : Option Text)
      → or_else (long_fault rules false (named is_serial is_batch) value wanting) (step_fault shape 1 (step_behind (named is_serial is_batch) value).0 (step_behind (named is_serial is_batch) value).1) ≢ []
  is_no_long true b (Some v) e = no_fault e
  is_no_long true b None e = no_fault e
  is_no_long false true (Some v) e = no_fault e
  is_no_long false true None e = no_fault e
  is_no_long false false v e = no_fault e

  is_value_of : (long : Option (Text × Option Text))
      → or_else (flag_word_fault rules false long word wanting) (step_fault shape 1 (long_or_other rules number word long wanting).0 (long_or_other rules number word long wanting).1) ≡ []
      → after_step rules word (waiting_at rows) (long_or_other rules number word long wanting).0 (long_or_other rules number word long wanting).1 ≡ given
  is_value_of None none = is_plain_value (short_of word) refl none
  is_value_of (Some p) none = absurd (is_no_long (bytes_eq (codes "serial") p.0) (bytes_eq (codes "batch") p.0) p.1 none)

  -- where no fault is found, the word behind `--batch` is its value
  pub is_value : bytes_eq word double_hyphen ≡ false → turn_fault shape [] (waiting_at rows) word ≡ [] → walked rules [] (waiting_at rows) word ≡ given
  unfolding walked
  is_value other none = rw other (is_value_of (long_of word) (rw other at none))
