-- What is said of a record, by what was read of it, by how the audit of its statements ended, and by what
-- was written.
use Rattle.std.proofs.Common.{◌≡◌, ◌∙◌, ◌⊎◌, inl, inr, ℕ, ◌+◌, ◌<◌, ◌≤◌, List, [], ◌∷◌, Option, Some, length, min, take, refl, sym, ap, subst, append-nil, arith}
use Rattle.std.specs.Prelude.{IsSome}
use Rattle.std.proofs.lemmas.List.{length-take, take_all}
use Rattle.kb_edges.specs.Files.{File, HasFile, content_of}
use Rattle.kb_edges.specs.Told.{IfTold}
use Rattle.hit_collectors.specs.Tallies.{BoxTally}
use Rattle.query_script.specs.declared.command_words.Words.{Words}
use Rattle.query_script.specs.declared.statement.Placed.{Placed}
use Rattle.import_work.proofs.FileLemmas.{told_there}
use Rattle.session_core.specs.Lawful.{Rules}
use Rattle.serial_run.specs.Script.{IsScript}
use Rattle.serial_run.proofs.WordLemmas.{batch_some}
use Rattle.run_audit.specs.AuditWords.{AreAuditWords, record_name, rules_of}
use Rattle.run_audit.specs.Audited.{IsAudited, WritesLinePrefix}
use Rattle.run_audit.specs.Causes.{HasNoRecord}
use Rattle.run_audit.specs.Texts.{verdict_text}
use Rattle.run_audit.specs.Verdict.{AgreesWhole, DepartsAt, IsVerdict, IsVerdictLine, departs_text, lawful_text, most_record_bytes, too_long_text}
use Rattle.run_audit.specs.declared.verdict.Verdict.{Verdict}
use Rattle.run_audit.specs.declared.verdict.Verdict.TheVariants as told
use Rattle.run_audit.proofs.GuidedLawful.{guided-lawful}
use Rattle.run_audit.proofs.Verdicts.{verdicts-exact}

-- ---- what was read of a record

-- no more than a limit was read, so it is all
read-whole : (limit : ℕ) (read recorded : List ℕ) → read ≡ take (limit + 1) recorded → length read ≤ limit → read ≡ recorded
read-whole limit read recorded is short =
    let counted : length read ≡ min (limit + 1) (length recorded) = ap length is ∙ length-take (limit + 1) recorded in
    is ∙ take_all (limit + 1) recorded (omega arith)

-- more than the limit was read, so there is more
read-long : (limit : ℕ) (read recorded : List ℕ) → read ≡ take (limit + 1) recorded → limit < length read → limit < length recorded
read-long limit read recorded is long =
    let counted : length read ≡ min (limit + 1) (length recorded) = ap length is ∙ length-take (limit + 1) recorded in
    omega arith

module _ (files : List File) (rules : Rules) (boxes : List BoxTally) (placed : List Placed) (path read : List ℕ)
    (there : IsSome (content_of files path record_name)) (is : IfTold (content_of files path record_name) (λ bytes. read ≡ take (most_record_bytes + 1) bytes)) where
  found : (recorded : List ℕ) × (content_of files path record_name ≡ Some recorded) × (read ≡ take (most_record_bytes + 1) recorded)
  found = let content = told_there (content_of files path record_name) there in (content.0, content.1, is content.0 content.1)

  whole-record : length read ≤ most_record_bytes → content_of files path record_name ≡ Some read
  whole-record short = found.1 ∙ ap (λ (t : List ℕ). Some t) (sym (read-whole most_record_bytes read found.0 found.2 short))

  -- it is too long
  pub says-too_long : most_record_bytes < length read → (recorded : List ℕ) × (content_of files path record_name ≡ Some recorded) × IsVerdict files rules boxes placed recorded too_long_text
  says-too_long long = (found.0, found.1, IsVerdict.too_long (read-long most_record_bytes read found.0 found.2 long))

  -- its statements were passed
  pub says-lawful : length read ≤ most_record_bytes → AgreesWhole files rules boxes placed read → (recorded : List ℕ) × (content_of files path record_name ≡ Some recorded) × IsVerdict files rules boxes placed recorded lawful_text
  says-lawful short guided = (read, whole-record short, IsVerdict.lawful short guided.0 (guided-lawful files rules boxes placed read guided.0 read guided.1))

  -- it departs
  pub says-departs : (offset : ℕ) → length read ≤ most_record_bytes → DepartsAt files rules boxes placed read offset → (recorded : List ℕ) × (content_of files path record_name ≡ Some recorded) × IsVerdict files rules boxes placed recorded (departs_text offset)
  says-departs offset short departs = (read, whole-record short, IsVerdict.departs short offset departs)

-- ---- the words

-- words name one path
path-one : (words : List (List ℕ)) (one other : List ℕ) (read more : Words) → AreAuditWords words one read → AreAuditWords words other more → one ≡ other
path-one words one other read more a b = let same : one ∷ a.others ≡ other ∷ b.others = sym a.words_are ∙ b.words_are in cc

-- the record isn't there
pub no-record : {Rises : Type 0} (words : List (List ℕ)) (files : Option (List File)) (path : List ℕ) (read : Words) → AreAuditWords words path read
    → Rises ⊎ ((all : List File) × (files ≡ Some all) × (¬ HasFile all path record_name)) → Rises ⊎ HasNoRecord files words
no-record words files path read say (inl rose) = inl rose
no-record words files path read say (inr (all, are, none)) =
    inr (all, are, λ other more says there. none (subst (λ (p : List ℕ). HasFile all p record_name) (path-one words other path more read says say) there))

-- ---- what is written

-- the line is the verdict of a record
pub audited-record : (words : List (List ℕ)) (boxes : List BoxTally) (script : List ℕ) (files : List File) (path : List ℕ) (read : Words) (placed : List Placed) (line : List ℕ) → AreAuditWords words path read → IsScript script placed
    → ((recorded : List ℕ) × (content_of files path record_name ≡ Some recorded) × IsVerdict files (rules_of read) boxes placed recorded line) → IsAudited words boxes script files line
audited-record words boxes script files path read placed line say spelled (recorded, is, verdict) = record {
  path = path;
  read = read;
  say = say;
  placed = placed;
  spelled = spelled;
  recorded = recorded;
  is_record = is;
  verdict = verdict;
  unlawful = λ names offset same.
      (verdicts-exact files (rules_of read) boxes script placed recorded (batch_some say.others read say.lawful) spelled names).departs offset
      (subst (λ (text : List ℕ). IsVerdict files (rules_of read) boxes placed recorded text) same verdict);
}

-- each verdict has one of the lines
pub verdict-line : (verdict : Verdict) → IsVerdictLine (verdict_text verdict)
verdict-line told.Lawful = inl refl
verdict-line (told.Departs at) = inr (inr (at, refl))
verdict-line told.TooLong = inr (inl refl)

-- nothing was written yet
pub no-line : (before : List ℕ) (written : Option (List ℕ)) → written ≡ Some before → WritesLinePrefix before written
no-line before written is = record {
  line = lawful_text;
  is_line = inl refl;
  text = [];
  prefix = (lawful_text, refl);
  written_is = is ∙ ap (λ (t : List ℕ). Some t) (sym (append-nil before));
}
