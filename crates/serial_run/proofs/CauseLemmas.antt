-- Each end of a run has its cause.
use Rattle.std.proofs.Common.{◌≡◌, inl, inr, ℕ, ◌≤◌, List, [], Some, drop, refl, subst}
use Rattle.kb_edges.specs.Faults.{Rose}
use Rattle.query_script.specs.CommandWords.{AreLawful}
use Rattle.query_script.specs.declared.command_words.Words.{Words}
use Rattle.serial_run.specs.Causes.{EdgeStates, HasCause}
use Rattle.serial_run.specs.RunErrors.{status_of}
use Rattle.serial_run.specs.Script.{IsBad, IsInGrammar}
use Rattle.serial_run.specs.declared.statements.Stopped.{Stopped}
use Rattle.serial_run.specs.declared.statements.Stopped.TheVariants as stopped
use Rattle.serial_run.specs.declared.status.Status.TheVariants as status
use Rattle.serial_run.proofs.ScriptLemmas.{good_not_bad}

module _ (words : List (List ℕ)) (e : EdgeStates) (source : e.source_faults ≤ e.source_faults_now) (sink : e.sink_faults ≤ e.sink_faults_now) where
  -- the words aren't lawful
  pub ended-bad_words : ((read : Words) → ¬ AreLawful words read) → e.written_now ≡ e.written → HasCause words status.BadWords e
  ended-bad_words none same = record {
    bad_words = λ is. none;
    lawful_words = λ not_words not_memory. absurd (not_words refl);
    script_unread = λ is. absurd (cc is);
    bad_script = λ bytes told k is. absurd (cc is);
    in_grammar = λ bytes told ends. elim ends [
      | inl is ↦ absurd (cc is)
      | inr is ↦ absurd (cc is)
    ];
    done_left = λ bytes told is. absurd (cc is);
    bad_script_left = λ bytes told k is. absurd (cc is);
    sink_fault = λ is. absurd (cc is);
    complete = λ bytes read told say good still kept. absurd (none read say);
    nothing_written = λ early. same;
    source_later = source;
    sink_later = sink;
  }

  -- memory was wanted
  pub ended-no_memory : HasCause words status.NoMemory e
  ended-no_memory = record {
    bad_words = λ is. absurd (cc is);
    lawful_words = λ not_words not_memory. absurd (not_memory refl);
    script_unread = λ is. absurd (cc is);
    bad_script = λ bytes told k is. absurd (cc is);
    in_grammar = λ bytes told ends. elim ends [
      | inl is ↦ absurd (cc is)
      | inr is ↦ absurd (cc is)
    ];
    done_left = λ bytes told is. absurd (cc is);
    bad_script_left = λ bytes told k is. absurd (cc is);
    sink_fault = λ is. absurd (cc is);
    complete = λ bytes read told say good still kept. inr refl;
    nothing_written = λ early. absurd early;
    source_later = source;
    sink_later = sink;
  }

  -- the words are lawful
  module _ (read : Words) (say : AreLawful words read) where
    -- the source failed
    pub ended-unread : Rose e.source_faults e.source_faults_now → e.written_now ≡ e.written → HasCause words status.ScriptUnread e
    ended-unread rose same = record {
      bad_words = λ is. absurd (cc is);
      lawful_words = λ not_words not_memory. (read, say);
      script_unread = λ is. rose;
      bad_script = λ bytes told k is. absurd (cc is);
      in_grammar = λ bytes told ends. elim ends [
        | inl is ↦ absurd (cc is)
        | inr is ↦ absurd (cc is)
      ];
      done_left = λ bytes told is. absurd (cc is);
      bad_script_left = λ bytes told k is. absurd (cc is);
      sink_fault = λ is. absurd (cc is);
      complete = λ bytes own told says good still kept. absurd (still rose);
      nothing_written = λ early. same;
      source_later = source;
      sink_later = sink;
    }

    -- the script is bad
    pub ended-bad_script : (line : ℕ) → ((bytes : List ℕ) → e.left ≡ Some bytes → IsBad bytes line) → ((bytes : List ℕ) → e.left ≡ Some bytes → e.left_now ≡ Some (drop 1048577 bytes)) → e.written_now ≡ e.written → HasCause words (status.BadScript line) e
    ended-bad_script line bad left same = record {
      bad_words = λ is. absurd (cc is);
      lawful_words = λ not_words not_memory. (read, say);
      script_unread = λ is. absurd (cc is);
      bad_script = λ bytes told k is. let own : line ≡ k = cc is in subst (IsBad bytes) own (bad bytes told);
      in_grammar = λ bytes told ends. elim ends [
        | inl is ↦ absurd (cc is)
        | inr is ↦ absurd (cc is)
      ];
      done_left = λ bytes told is. absurd (cc is);
      bad_script_left = λ bytes told k is. left bytes told;
      sink_fault = λ is. absurd (cc is);
      complete = λ bytes own told says good still kept. absurd (good_not_bad bytes line good (bad bytes told));
      nothing_written = λ early. same;
      source_later = source;
      sink_later = sink;
    }

    -- the run is done
    pub ended-done : ((bytes : List ℕ) → e.left ≡ Some bytes → IsInGrammar bytes) → ((bytes : List ℕ) → e.left ≡ Some bytes → e.left_now ≡ Some []) → HasCause words status.Done e
    ended-done good left = record {
      bad_words = λ is. absurd (cc is);
      lawful_words = λ not_words not_memory. (read, say);
      script_unread = λ is. absurd (cc is);
      bad_script = λ bytes told k is. absurd (cc is);
      in_grammar = λ bytes told ends. good bytes told;
      done_left = λ bytes told is. left bytes told;
      bad_script_left = λ bytes told k is. absurd (cc is);
      sink_fault = λ is. absurd (cc is);
      complete = λ bytes own told says spelled still kept. inl refl;
      nothing_written = λ early. absurd early;
      source_later = source;
      sink_later = sink;
    }

    -- the sink failed
    ended-sink_fault : ((bytes : List ℕ) → e.left ≡ Some bytes → IsInGrammar bytes) → Rose e.sink_faults e.sink_faults_now → HasCause words status.SinkFault e
    ended-sink_fault good rose = record {
      bad_words = λ is. absurd (cc is);
      lawful_words = λ not_words not_memory. (read, say);
      script_unread = λ is. absurd (cc is);
      bad_script = λ bytes told k is. absurd (cc is);
      in_grammar = λ bytes told ends. good bytes told;
      done_left = λ bytes told is. absurd (cc is);
      bad_script_left = λ bytes told k is. absurd (cc is);
      sink_fault = λ is. rose;
      complete = λ bytes own told says spelled still kept. absurd (kept rose);
      nothing_written = λ early. absurd early;
      source_later = source;
      sink_later = sink;
    }

    -- the run stopped amid its statements
    pub ended-stopped : (why : Stopped) → ((bytes : List ℕ) → e.left ≡ Some bytes → IsInGrammar bytes) → (why ≡ stopped.SinkFault → Rose e.sink_faults e.sink_faults_now) → HasCause words (status_of why) e
    ended-stopped stopped.SinkFault good rose = ended-sink_fault good (rose refl)
    ended-stopped stopped.NoMemory good rose = ended-no_memory
