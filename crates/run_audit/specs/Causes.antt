-- Why an audit ended as it did: what its status has to do with the words, the source, the folder and
-- the sink.
use Rattle.std.specs.Prelude.{◌≡◌, ◌≢◌, ◌⊎◌, ℕ, ◌≤◌, List, [], Option, Some, drop}
use Rattle.kb_edges.specs.Faults.{Rose}
use Rattle.kb_edges.specs.Files.{File, HasFile}
use Rattle.query_script.specs.declared.command_words.Words.{Words}
use Rattle.serial_run.specs.Causes.{EdgeStates}
use Rattle.serial_run.specs.Script.{IsBad, IsInGrammar}
use Rattle.run_audit.specs.AuditWords.{AreAuditWords, record_name}
use Rattle.run_audit.specs.declared.status.AuditStatus.{AuditStatus}
use Rattle.run_audit.specs.declared.status.AuditStatus.TheVariants as status

-- the audit ended before the folder was asked, and not for want of memory
abbrev pub IsEarly : AuditStatus → Type 0
IsEarly status.BadWords = Unit {0}
IsEarly status.ScriptUnread = Unit {0}
IsEarly (status.BadScript line) = Unit {0}
IsEarly status.Done = ⊥
IsEarly status.SinkFault = ⊥
IsEarly status.NoMemory = ⊥
IsEarly status.FolderUnread = ⊥

-- the audit said nothing, and not for want of memory
abbrev pub IsSilent : AuditStatus → Type 0
IsSilent status.FolderUnread = Unit {0}
IsSilent other = IsEarly other

-- The folder of an audit, before it and behind it: its files, where it tells them, and its counts of
-- faults.
pub record FolderStates : Type 0 where
  pub files : Option (List File)
  pub faults : ℕ
  pub faults_now : ℕ

-- where the folder tells its files, one of them is the record under this path
abbrev pub HasRecord : Option (List File) → List ℕ → Type 0
HasRecord told path = (files : List File) → told ≡ Some files → HasFile files path record_name

-- the folder tells its files, and none of them is the record of these words
abbrev pub HasNoRecord : Option (List File) → List (List ℕ) → Type 0
HasNoRecord told words = (files : List File) × (told ≡ Some files)
    × ((path : List ℕ) (read : Words) → AreAuditWords words path read →
    ¬ HasFile files path record_name)

-- What an audit's status has to do with its words and with what stands at its edges.
pub record HasAuditCause (words : List (List ℕ)) (ended : AuditStatus) (e : EdgeStates)
    (f : FolderStates) : Type 0 where
  -- Words that aren't lawful are told so, but for want of memory. Lawful ones are never told so.
  pub bad_words : ended ≡ status.BadWords → (path : List ℕ) (read : Words) →
      ¬ AreAuditWords words path read
  pub lawful_words : ended ≢ status.BadWords → ended ≢ status.NoMemory →
      (path : List ℕ) × (read : Words) × AreAuditWords words path read
  -- a script is unread only where the source failed
  pub script_unread : ended ≡ status.ScriptUnread → Rose e.source_faults e.source_faults_now
  -- a bad script is told by its bad line, and no other script is told so or audited
  pub bad_script : (bytes : List ℕ) → e.left ≡ Some bytes → (k : ℕ) →
      ended ≡ status.BadScript k → IsBad bytes k
  pub in_grammar : (bytes : List ℕ) → e.left ≡ Some bytes →
      (ended ≡ status.Done) ⊎ (ended ≡ status.SinkFault) ⊎ (ended ≡ status.FolderUnread) →
      IsInGrammar bytes
  -- A script that was read to its end leaves nothing; of one that is too long no more than one byte
  -- past the limit is read.
  pub done_left : (bytes : List ℕ) → e.left ≡ Some bytes → ended ≡ status.Done →
      e.left_now ≡ Some []
  pub bad_script_left : (bytes : List ℕ) → e.left ≡ Some bytes → (k : ℕ) →
      ended ≡ status.BadScript k → e.left_now ≡ Some (drop 1048577 bytes)
  -- a folder is unread only where it failed, or where it tells its files and the record isn't there
  pub folder_unread : ended ≡ status.FolderUnread →
      Rose f.faults f.faults_now ⊎ HasNoRecord f.files words
  -- the sink fails only where its count rose
  pub sink_fault : ended ≡ status.SinkFault → Rose e.sink_faults e.sink_faults_now
  -- where nothing fails and the record is there, the audit is done, or memory was wanted
  pub complete : (bytes path : List ℕ) (read : Words) → e.left ≡ Some bytes →
      AreAuditWords words path read → IsInGrammar bytes → HasRecord f.files path →
      ¬ Rose e.source_faults e.source_faults_now → ¬ Rose e.sink_faults e.sink_faults_now →
      ¬ Rose f.faults f.faults_now → (ended ≡ status.Done) ⊎ (ended ≡ status.NoMemory)
  -- an audit that says nothing writes nothing
  pub nothing_written : IsSilent ended → e.written_now ≡ e.written
  -- no count of faults falls
  pub source_later : e.source_faults ≤ e.source_faults_now
  pub sink_later : e.sink_faults ≤ e.sink_faults_now
  pub folder_later : f.faults ≤ f.faults_now
