-- Each end of an audit has its cause.
use Rattle.std.proofs.Common.{◌≡◌, ◌⊎◌, inl, inr, ℕ, ◌≤◌, List, [], Some, drop, refl, subst}
use Rattle.kb_edges.specs.Faults.{Rose}
use Rattle.query_script.specs.declared.command_words.Words.{Words}
use Rattle.serial_run.specs.Causes.{EdgeStates}
use Rattle.serial_run.specs.Script.{IsBad, IsInGrammar}
use Rattle.serial_run.proofs.ScriptLemmas.{good_not_bad}
use Rattle.run_audit.specs.AuditWords.{AreAuditWords}
use Rattle.run_audit.specs.Causes.{FolderStates, HasAuditCause, HasNoRecord}
use Rattle.run_audit.specs.declared.status.AuditStatus.TheVariants as status

module _ (words : List (List ℕ)) (e : EdgeStates) (f : FolderStates) (source : e.source_faults ≤ e.source_faults_now) (sink : e.sink_faults ≤ e.sink_faults_now) (folder : f.faults ≤ f.faults_now) where
  -- the words aren't lawful
  pub audit-bad_words : ((path : List ℕ) (read : Words) → ¬ AreAuditWords words path read) → e.written_now ≡ e.written → HasAuditCause words status.BadWords e f
  audit-bad_words none same = record {
    bad_words = λ is. none;
    lawful_words = λ not_words not_memory. absurd (not_words refl);
    script_unread = λ is. absurd (cc is);
    bad_script = λ bytes told k is. absurd (cc is);
    in_grammar = λ bytes told ends. elim ends [ inl is ↦ absurd (cc is) | inr others ↦ elim others [ inl is ↦ absurd (cc is) | inr is ↦ absurd (cc is) ] ];
    done_left = λ bytes told is. absurd (cc is);
    bad_script_left = λ bytes told k is. absurd (cc is);
    folder_unread = λ is. absurd (cc is);
    sink_fault = λ is. absurd (cc is);
    complete = λ bytes path read told say good there still kept stays. absurd (none path read say);
    nothing_written = λ silent. same;
    source_later = source;
    sink_later = sink;
    folder_later = folder;
  }

  -- memory was wanted
  pub audit-no_memory : HasAuditCause words status.NoMemory e f
  audit-no_memory = record {
    bad_words = λ is. absurd (cc is);
    lawful_words = λ not_words not_memory. absurd (not_memory refl);
    script_unread = λ is. absurd (cc is);
    bad_script = λ bytes told k is. absurd (cc is);
    in_grammar = λ bytes told ends. elim ends [ inl is ↦ absurd (cc is) | inr others ↦ elim others [ inl is ↦ absurd (cc is) | inr is ↦ absurd (cc is) ] ];
    done_left = λ bytes told is. absurd (cc is);
    bad_script_left = λ bytes told k is. absurd (cc is);
    folder_unread = λ is. absurd (cc is);
    sink_fault = λ is. absurd (cc is);
    complete = λ bytes path read told say good there still kept stays. inr refl;
    nothing_written = λ silent. absurd silent;
    source_later = source;
    sink_later = sink;
    folder_later = folder;
  }

  -- the words are lawful
  module _ (path : List ℕ) (read : Words) (say : AreAuditWords words path read) where
    -- the source failed
    pub audit-unread : Rose e.source_faults e.source_faults_now → e.written_now ≡ e.written → HasAuditCause words status.ScriptUnread e f
    audit-unread rose same = record {
      bad_words = λ is. absurd (cc is);
      lawful_words = λ not_words not_memory. (path, read, say);
      script_unread = λ is. rose;
      bad_script = λ bytes told k is. absurd (cc is);
      in_grammar = λ bytes told ends. elim ends [ inl is ↦ absurd (cc is) | inr others ↦ elim others [ inl is ↦ absurd (cc is) | inr is ↦ absurd (cc is) ] ];
      done_left = λ bytes told is. absurd (cc is);
      bad_script_left = λ bytes told k is. absurd (cc is);
      folder_unread = λ is. absurd (cc is);
      sink_fault = λ is. absurd (cc is);
      complete = λ bytes own others told says good there still kept stays. absurd (still rose);
      nothing_written = λ silent. same;
      source_later = source;
      sink_later = sink;
      folder_later = folder;
    }

    -- the script is bad
    pub audit-bad_script : (line : ℕ) → ((bytes : List ℕ) → e.left ≡ Some bytes → IsBad bytes line) → ((bytes : List ℕ) → e.left ≡ Some bytes → e.left_now ≡ Some (drop 1048577 bytes)) → e.written_now ≡ e.written → HasAuditCause words (status.BadScript line) e f
    audit-bad_script line bad left same = record {
      bad_words = λ is. absurd (cc is);
      lawful_words = λ not_words not_memory. (path, read, say);
      script_unread = λ is. absurd (cc is);
      bad_script = λ bytes told k is. let own : line ≡ k = cc is in subst (IsBad bytes) own (bad bytes told);
      in_grammar = λ bytes told ends. elim ends [ inl is ↦ absurd (cc is) | inr others ↦ elim others [ inl is ↦ absurd (cc is) | inr is ↦ absurd (cc is) ] ];
      done_left = λ bytes told is. absurd (cc is);
      bad_script_left = λ bytes told k is. left bytes told;
      folder_unread = λ is. absurd (cc is);
      sink_fault = λ is. absurd (cc is);
      complete = λ bytes own others told says good there still kept stays. absurd (good_not_bad bytes line good (bad bytes told));
      nothing_written = λ silent. same;
      source_later = source;
      sink_later = sink;
      folder_later = folder;
    }

    module _ (good : (bytes : List ℕ) → e.left ≡ Some bytes → IsInGrammar bytes) where
      -- the folder failed, or it has no record
      pub audit-folder_unread : Rose f.faults f.faults_now ⊎ HasNoRecord f.files words → e.written_now ≡ e.written → HasAuditCause words status.FolderUnread e f
      audit-folder_unread none same = record {
        bad_words = λ is. absurd (cc is);
        lawful_words = λ not_words not_memory. (path, read, say);
        script_unread = λ is. absurd (cc is);
        bad_script = λ bytes told k is. absurd (cc is);
        in_grammar = λ bytes told ends. good bytes told;
        done_left = λ bytes told is. absurd (cc is);
        bad_script_left = λ bytes told k is. absurd (cc is);
        folder_unread = λ is. none;
        sink_fault = λ is. absurd (cc is);
        complete = λ bytes own others told says spelled there still kept stays. elim none [ inl rose ↦ absurd (stays rose) | inr (files, are, missing) ↦ absurd (missing own others says (there files are)) ];
        nothing_written = λ silent. same;
        source_later = source;
        sink_later = sink;
        folder_later = folder;
      }

      -- the audit is done
      pub audit-done : ((bytes : List ℕ) → e.left ≡ Some bytes → e.left_now ≡ Some []) → HasAuditCause words status.Done e f
      audit-done left = record {
        bad_words = λ is. absurd (cc is);
        lawful_words = λ not_words not_memory. (path, read, say);
        script_unread = λ is. absurd (cc is);
        bad_script = λ bytes told k is. absurd (cc is);
        in_grammar = λ bytes told ends. good bytes told;
        done_left = λ bytes told is. left bytes told;
        bad_script_left = λ bytes told k is. absurd (cc is);
        folder_unread = λ is. absurd (cc is);
        sink_fault = λ is. absurd (cc is);
        complete = λ bytes own others told says spelled there still kept stays. inl refl;
        nothing_written = λ silent. absurd silent;
        source_later = source;
        sink_later = sink;
        folder_later = folder;
      }

      -- the sink failed
      pub audit-sink_fault : Rose e.sink_faults e.sink_faults_now → HasAuditCause words status.SinkFault e f
      audit-sink_fault rose = record {
        bad_words = λ is. absurd (cc is);
        lawful_words = λ not_words not_memory. (path, read, say);
        script_unread = λ is. absurd (cc is);
        bad_script = λ bytes told k is. absurd (cc is);
        in_grammar = λ bytes told ends. good bytes told;
        done_left = λ bytes told is. absurd (cc is);
        bad_script_left = λ bytes told k is. absurd (cc is);
        folder_unread = λ is. absurd (cc is);
        sink_fault = λ is. rose;
        complete = λ bytes own others told says spelled there still kept stays. absurd (kept rose);
        nothing_written = λ silent. absurd silent;
        source_later = source;
        sink_later = sink;
        folder_later = folder;
      }
