use Rattle.std.proofs.Common.{Err, ap, arith, inr, refl}
use Rattle.serial_run.specs.Causes.{EdgeStates}
use Rattle.serial_run.proofs.CauseLemmas.{ended-bad_script, ended-done, ended-stopped}
use Rattle.serial_run.proofs.ScriptLemmas.{IsScript-in_grammar}
use Rattle.serial_run.proofs.RunLemmas.{PrintsAll-still}
use Rattle.serial_run.proofs.WordLemmas.{batch_some}
use Rattle.serial_run.proofs.serial.run_serial.Goals as goal

pub returns-in-Err-BadLine-clause-causes : goal.returns-in-Err-BadLine-clause-causes
returns-in-Err-BadLine-clause-causes g c =
    let out = c.args.out.now in
    let edges : EdgeStates = record {
      left = g.S.Source.left c.args.script.now;
      left_now = g.S.Source.left c.read_statements.new.script;
      source_faults = g.S.Source.faults c.args.script.now;
      source_faults_now = g.S.Source.faults c.read_statements.new.script;
      written = g.K.Sink.written out;
      written_now = g.K.Sink.written out;
      sink_faults = g.K.Sink.faults out;
      sink_faults_now = g.K.Sink.faults out;
    } in
    rw c.in-Err-BadLine.field-0-is
    (ended-bad_script _ edges c.in-Err-BadLine.ensures.later (omega arith) c.in-Ok.said c.in-Ok.ensures.read c.in-Err-BadLine.line
    (λ bytes told. c.in-Err-BadLine.ensures.bad_line bytes told c.in-Err-BadLine.line (ap Err c.in-Err-BadLine.field-0-is))
    (λ bytes told. c.in-Err-BadLine.ensures.bad_left bytes told c.in-Err-BadLine.line (ap Err c.in-Err-BadLine.field-0-is))
    refl)

pub run_statements-requires-clause-few : goal.run_statements-requires-clause-few
run_statements-requires-clause-few g c κs within = rw c.deref.ensures.value c.in-Ok-read_statements.ensures.few

pub run_statements-requires-clause-some : goal.run_statements-requires-clause-some
run_statements-requires-clause-some g c κs within = batch_some _ c.in-Ok.said c.in-Ok.ensures.read

pub returns-in-Ok-run_statements-clause-causes : goal.returns-in-Ok-run_statements-clause-causes
returns-in-Ok-run_statements-clause-causes g c =
    ended-done _ _ c.in-Ok-read_statements.ensures.later c.in-Ok-run_statements.ensures.sink_later c.in-Ok.said c.in-Ok.ensures.read
    (λ bytes told. IsScript-in_grammar bytes c.in-Ok-read_statements.placed.items (c.in-Ok-read_statements.ensures.spelled bytes told))
    (λ bytes told. c.in-Ok-read_statements.ensures.left bytes told)

pub returns-in-Ok-run_statements-clause-done : goal.returns-in-Ok-run_statements-clause-done
returns-in-Ok-run_statements-clause-done g c = λ bytes files before told files_told written is. record {
  read = c.in-Ok.said;
  say = c.in-Ok.ensures.read;
  placed = c.in-Ok-read_statements.placed.items;
  spelled = c.in-Ok-read_statements.ensures.spelled bytes told;
  lawful = rw c.deref.ensures.value at (c.in-Ok-run_statements.ensures.lawful files files_told before written);
}

pub returns-in-Ok-run_statements-clause-no_loss : goal.returns-in-Ok-run_statements-clause-no_loss
returns-in-Ok-run_statements-clause-no_loss g c = λ bytes files before told files_told written is still.
    let ran = rw c.deref.ensures.value at (c.in-Ok-run_statements.ensures.lawful files files_told before written) in
    PrintsAll-still _ c.in-Ok.said c.in-Ok.ensures.read _ bytes files before _ _ _ c.in-Ok-read_statements.placed.items
    (c.in-Ok-read_statements.ensures.spelled bytes told)
    ran still

pub returns-clause-causes : goal.returns-clause-causes
returns-clause-causes g c =
    rw c.from.ensures
    (ended-stopped _ _ c.in-Ok-read_statements.ensures.later c.in-Err.ensures.sink_later c.in-Ok.said c.in-Ok.ensures.read c.in-Err.stopped
    (λ bytes told. IsScript-in_grammar bytes c.in-Ok-read_statements.placed.items (c.in-Ok-read_statements.ensures.spelled bytes told))
    (λ is. c.in-Err.ensures.sink_fault (ap Err is)))

pub returns-clause-stopped : goal.returns-clause-stopped
returns-clause-stopped g c = λ bytes files before told files_told written is. record {
  read = c.in-Ok.said;
  say = c.in-Ok.ensures.read;
  placed = c.in-Ok-read_statements.placed.items;
  spelled = c.in-Ok-read_statements.ensures.spelled bytes told;
  prefix = rw c.deref.ensures.value at (c.in-Err.ensures.prefix files files_told before written);
}

pub returns-clause-no_memory : goal.returns-clause-no_memory
returns-clause-no_memory g c = λ bytes files before told files_told written is. inr (record {
  read = c.in-Ok.said;
  say = c.in-Ok.ensures.read;
  placed = c.in-Ok-read_statements.placed.items;
  spelled = c.in-Ok-read_statements.ensures.spelled bytes told;
  prefix = rw c.deref.ensures.value at (c.in-Err.ensures.prefix files files_told before written);
})
