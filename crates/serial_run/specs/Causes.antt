-- Why a run ended as it did: what its status has to do with the words, the source and the sink.
use Rattle.std.specs.Prelude.{◌≡◌, ◌≢◌, ◌⊎◌, ℕ, ◌≤◌, List, [], Option, Some, drop}
use Rattle.kb_edges.specs.Faults.{Rose}
use Rattle.query_script.specs.CommandWords.{AreLawful}
use Rattle.query_script.specs.declared.command_words.Words.{Words}
use Rattle.serial_run.specs.Script.{IsBad, IsInGrammar}
use Rattle.serial_run.specs.declared.status.Status.{Status}
use Rattle.serial_run.specs.declared.status.Status.TheVariants as status

-- the run ended before the first statement, and not for want of memory
abbrev pub IsEarly : Status → Type 0
IsEarly status.BadWords = Unit {0}
IsEarly status.ScriptUnread = Unit {0}
IsEarly (status.BadScript line) = Unit {0}
IsEarly status.Done = ⊥
IsEarly status.SinkFault = ⊥
IsEarly status.NoMemory = ⊥

-- The source and the sink of a run, before it and behind it: what the source has left and what is
-- written, where they tell it, and their counts of faults.
pub record EdgeStates : Type 0 where
  pub left : Option (List ℕ)
  pub left_now : Option (List ℕ)
  pub source_faults : ℕ
  pub source_faults_now : ℕ
  pub written : Option (List ℕ)
  pub written_now : Option (List ℕ)
  pub sink_faults : ℕ
  pub sink_faults_now : ℕ

-- What a run's status has to do with its words and with what stands at its edges.
pub record HasCause (words : List (List ℕ)) (ended : Status) (e : EdgeStates) : Type 0 where
  -- Words that aren't lawful are told so, but for want of memory. Lawful ones are never told so.
  pub bad_words : ended ≡ status.BadWords → (read : Words) → ¬ AreLawful words read
  pub lawful_words : ended ≢ status.BadWords → ended ≢ status.NoMemory →
      (read : Words) × AreLawful words read
  -- a script is unread only where the source failed
  pub script_unread : ended ≡ status.ScriptUnread → Rose e.source_faults e.source_faults_now
  -- a bad script is told by its bad line, and no other script is told so or run
  pub bad_script : (bytes : List ℕ) → e.left ≡ Some bytes → (k : ℕ) →
      ended ≡ status.BadScript k → IsBad bytes k
  pub in_grammar : (bytes : List ℕ) → e.left ≡ Some bytes →
      (ended ≡ status.Done) ⊎ (ended ≡ status.SinkFault) → IsInGrammar bytes
  -- A script that was read to its end leaves nothing; of one that is too long no more than one byte
  -- past the limit is read.
  pub done_left : (bytes : List ℕ) → e.left ≡ Some bytes → ended ≡ status.Done →
      e.left_now ≡ Some []
  pub bad_script_left : (bytes : List ℕ) → e.left ≡ Some bytes → (k : ℕ) →
      ended ≡ status.BadScript k → e.left_now ≡ Some (drop 1048577 bytes)
  -- the sink fails only where its count rose
  pub sink_fault : ended ≡ status.SinkFault → Rose e.sink_faults e.sink_faults_now
  -- where nothing fails, the run is done, or memory was wanted
  pub complete : (bytes : List ℕ) (read : Words) → e.left ≡ Some bytes → AreLawful words read →
      IsInGrammar bytes → ¬ Rose e.source_faults e.source_faults_now →
      ¬ Rose e.sink_faults e.sink_faults_now →
      (ended ≡ status.Done) ⊎ (ended ≡ status.NoMemory)
  -- before the first statement nothing is written
  pub nothing_written : IsEarly ended → e.written_now ≡ e.written
  -- no count of faults falls
  pub source_later : e.source_faults ≤ e.source_faults_now
  pub sink_later : e.sink_faults ≤ e.sink_faults_now
