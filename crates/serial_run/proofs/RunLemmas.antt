-- A run, statement by statement.
use Rattle.std.proofs.Common.{◌≡◌, ◌⊎◌, inl, inr, ℕ, suc, ◌+◌, ◌<◌, ◌≤◌, List, [], ◌∷◌, ◌++◌, Option, Some, Ok, Err, length, get_or, take, drop, refl, sym, ap, ◌∙◌, append_assoc, arith}
use Rattle.std.specs.Prelude.{OnErr, Result}
use Rattle.std.proofs.Math.Seq.{split_at}
use Rattle.std.proofs.lemmas.List.{append-nil, take_more}
use mathlib.Core.List.{IsPrefix}
use Rattle.kb_edges.specs.Faults.{Rose, RoseBy}
use Rattle.kb_edges.specs.Files.{File}
use Rattle.hit_collectors.specs.Tallies.{BoxTally}
use Rattle.query_script.specs.CommandWords.{AreLawful}
use Rattle.query_script.specs.declared.command_words.Words.{Words}
use Rattle.query_script.specs.declared.statement.Placed.{Placed}
use Rattle.import_work.specs.Course.{losses_of}
use Rattle.session_core.specs.Lawful.{IsBegun, IsNextPrefix, Rules, State, at_start, nothing, one_more, waiting_text}
use Rattle.session_core.specs.SessionState.{SessionState, new_session}
use Rattle.serial_run.specs.Run.{WritesLawful, WritesPrefix, serial_rules}
use Rattle.serial_run.specs.Script.{IsScript}
use Rattle.serial_run.specs.Serial.{PrintsAll}
use Rattle.serial_run.specs.Steps.{HasRun, IsKeptOfState, IsTextByKept, Kept, PassesStatement, StopsInStatement, kept_report, nothing_kept}
use Rattle.import_work.proofs.FileLemmas.{RoseBy-then, rose_by_none}
use Rattle.import_work.proofs.Losses.{losses_of-append}
use Rattle.serial_run.proofs.StatementLemmas.{text-told, waiting_is}
use Rattle.session_core.proofs.WholeOutputs.{begun-completed, lawful-whole}

-- nothing is run yet
unfoldable pub HasRun-start : (rules : Rules) (files : List File) (start : List BoxTally) (told : SessionState) (before : List ℕ) (written : Option (List ℕ)) (count : ℕ) → told ≡ new_session start → written ≡ Some before → HasRun rules files start [] nothing_kept told before written count count
HasRun-start rules files start told before written count same is = record {
  state = at_start start;
  is_kept = record { version = refl; games = refl; waiting = refl; floor = omega arith; session_is = sym same };
  course = [];
  text = [];
  printed = nothing;
  written_is = is ∙ ap Some (sym (append-nil before));
  paid = rose_by_none count count (omega arith);
}

-- one statement more is run
unfoldable pub HasRun-more : (rules : Rules) (files : List File) (start : List BoxTally) (session told : SessionState) (placed : List Placed) (p : Placed) (kept after : Kept) (before : List ℕ) (between written : Option (List ℕ)) (first second third : ℕ) (h : HasRun rules files start placed kept session before between first second)
    → PassesStatement files rules kept session p after told (before ++ h.text) written second third → HasRun rules files start (placed ++ p ∷ []) after told before written first third
HasRun-more rules files start session told placed p kept after before between written first second third h more =
    let led = more.leads session told h.state h.is_kept (more.text_is files h.state h.is_kept) in record {
      state = led.1;
      is_kept = led.2;
      course = h.course ++ led.0;
      text = h.text ++ more.text;
      printed = one_more led.0 p led.1 more.text h.printed led.3;
      written_is = more.written_is ∙ ap Some (append_assoc before h.text more.text);
      paid = rw losses_of-append (RoseBy-then (losses_of h.course) (losses_of led.0) first second third h.paid led.4);
    }

-- the closing report is written
pub WritesLawful-end : (rules : Rules) (files : List File) (start : List BoxTally) (session : SessionState) (placed : List Placed) (kept : Kept) (before : List ℕ) (between written : Option (List ℕ)) (first second : ℕ) (h : HasRun rules files start placed kept session before between first second) → written ≡ Some ((before ++ h.text) ++ kept_report kept)
    → WritesLawful rules files start placed before written first second
WritesLawful-end rules files start session placed kept before between written first second h closed = record {
  course = h.course;
  text = h.text ++ waiting_text h.state;
  lawful = (h.state, h.text, h.printed, refl);
  written_is = closed ∙ ap Some (append_assoc before h.text (kept_report kept) ∙ ap (λ t. before ++ (h.text ++ t)) (waiting_is h.state kept session h.is_kept));
  paid = h.paid;
}

-- a count that rose further
rose_later : (n before between now : ℕ) → RoseBy n before between → between ≤ now → RoseBy n before now
rose_later n before between now rose later = omega arith

-- a prefix of what comes next is written
pub WritesPrefix-stopped : (rules : Rules) (files : List File) (start : List BoxTally) (session : SessionState) (placed passed left : List Placed) (kept : Kept) (before more : List ℕ) (between written : Option (List ℕ)) (first second third : ℕ) (h : HasRun rules files start passed kept session before between first second)
    → placed ≡ passed ++ left → IsNextPrefix files rules h.state left more → written ≡ Some ((before ++ h.text) ++ more) → second ≤ third → WritesPrefix rules files start placed before written first third
WritesPrefix-stopped rules files start session placed passed left kept before more between written first second third h split prefix is later =
    let begun : IsBegun files rules start h.course placed (h.text ++ more) = record { passed = passed; left = left; state = h.state; text = h.text; more = more; split = split; printed = h.printed; prefix = prefix; out_is = refl } in
    let whole = begun-completed files rules start h.course placed (h.text ++ more) begun in record {
      course = whole.whole_course;
      whole = whole.whole ++ waiting_text whole.state;
      lawful = lawful-whole files rules start h.course placed h.state.log (h.text ++ more) whole;
      text = h.text ++ more;
      prefix = whole.prefix;
      written_is = is ∙ ap Some (append_assoc before h.text more);
      paid = rose_later (losses_of whole.whole_course) first second third (rw whole.losses h.paid) later;
    }

-- what is written in a statement is a prefix of what comes next
pub next_prefix : (rules : Rules) (files : List File) (s : State) (kept : Kept) (session : SessionState) (p : Placed) (left : List Placed) (more : List ℕ) → IsKeptOfState s kept session
    → (more ≡ []) ⊎ ((text : List ℕ) × (told : SessionState) × IsTextByKept rules kept session p.line p.statement text told × IsPrefix more text) → IsNextPrefix files rules s (p ∷ left) more
next_prefix rules files s kept session p left more is (inl none) = inl none
next_prefix rules files s kept session p left more is (inr (text, told, of, prefix)) = inr (text, text-told files rules s p.line p.statement text told (of files s is), prefix)

-- what holds holds after an error
pub after_error : {T E : Type 0} (result : Result T E) (P : Type 0) → P → OnErr result P
after_error (Ok x) P h = tt
after_error (Err e) P h = h

-- a prefix of a statement's text was written
pub StopsInStatement-text : {T E : Type 0} (result : Result T E) (rules : Rules) (kept : Kept) (session told : SessionState) (p : Placed) (before : List ℕ) (written : Option (List ℕ)) (text more : List ℕ)
    → IsTextByKept rules kept session p.line p.statement text told → IsPrefix more text → written ≡ Some (before ++ more) → OnErr result (StopsInStatement rules kept session p before written)
StopsInStatement-text result rules kept session told p before written text more of prefix is =
    after_error result (StopsInStatement rules kept session p before written) (record { more = more; prefix = inr (text, told, of, prefix); written_is = is })

-- the statements before one, it, and those behind it
pub split_here : (placed : List Placed) (i : ℕ) (p : Placed) → i < length placed → p ≡ get_or placed i p → placed ≡ take i placed ++ p ∷ drop (suc i) placed
split_here placed i p below is = split_at placed i p below ∙ ap (λ (q : Placed). take i placed ++ q ∷ drop (suc i) placed) (sym is)

-- the elements up to one, and it
pub taken_more : {A : Type 0} (xs : List A) (i : ℕ) (x : A) → i < length xs → x ≡ get_or xs i x → take (i + 1) xs ≡ take i xs ++ x ∷ []
taken_more {A} xs i x below is = take_more xs i x below ∙ ap (λ (y : A). take i xs ++ y ∷ []) (sym is)

-- where the folder's count of faults didn't rise, nothing was lost
pub no_loss : (n before now : ℕ) → RoseBy n before now → ¬ Rose before now → n ≡ 0
no_loss n before now rose still = omega arith

pub PrintsAll-still : (words : List (List ℕ)) (read : Words) → AreLawful words read → (boxes : List BoxTally) (script : List ℕ) (files : List File) (before : List ℕ) (written : Option (List ℕ)) (faults_before faults_now : ℕ) (placed : List Placed) →
    IsScript script placed → WritesLawful (serial_rules read.batch) files boxes placed before written faults_before faults_now → ¬ Rose faults_before faults_now → PrintsAll words boxes script files before written
PrintsAll-still words read say boxes script files before written faults_before faults_now placed spelled h still = record {
  read = read;
  say = say;
  placed = placed;
  spelled = spelled;
  course = h.course;
  text = h.text;
  lawful = h.lawful;
  written_is = h.written_is;
  nothing_lost = no_loss (losses_of h.course) faults_before faults_now h.paid still;
}
