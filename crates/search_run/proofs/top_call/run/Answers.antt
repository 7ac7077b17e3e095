use Rattle.std.proofs.Common.{◌≡◌, ◌∙◌, inr, Err, Some, ap, arith, refl, sym}
use Rattle.search_run.specs.Bases.{BaseState}
use Rattle.serial_run.specs.Causes.{EdgeStates}
use Rattle.serial_run.proofs.CauseLemmas.{ended-bad_script, ended-done, ended-stopped}
use Rattle.serial_run.proofs.ScriptLemmas.{IsScript-in_grammar}
use Rattle.serial_run.proofs.WordLemmas.{batch_few, batch_some}
use Rattle.search_run.proofs.top_call.run.Goals as goal

pub returns-in_default-clause-done : goal.returns-in_default-clause-done
returns-in_default-clause-done g c = λ bytes files before told files_told written none is.
    c.run_serial-status.ensures.done bytes files before told files_told written is

pub returns-in_default-clause-stopped : goal.returns-in_default-clause-stopped
returns-in_default-clause-stopped g c = λ bytes files before told files_told written none is.
    c.run_serial-status.ensures.stopped bytes files before told files_told written is

pub returns-in_default-clause-no_memory : goal.returns-in_default-clause-no_memory
returns-in_default-clause-no_memory g c = λ bytes files before told files_told written none is.
    c.run_serial-status.ensures.no_memory bytes files before told files_told written is

pub returns-in-Err-BadLine-clause-causes : goal.returns-in-Err-BadLine-clause-causes
returns-in-Err-BadLine-clause-causes g c =
    let out = c.args.out.now in
    let edges : EdgeStates = record {
      left = g.S.Source.left c.args.script.now;
      left_now = g.S.Source.left c.read_statements.new.script;
      source_faults = g.S.Source.faults c.args.script.now;
      source_faults_now = g.S.Source.faults c.read_statements.new.script;
      written = g.K.Sink.written out;
      written_now = g.K.Sink.written out;
      sink_faults = g.K.Sink.faults out;
      sink_faults_now = g.K.Sink.faults out;
    } in
    rw c.in-Err-BadLine.field-0-is
    (ended-bad_script _ edges c.in-Err-BadLine.ensures.later (omega arith) c.in-Ok.said c.in-Ok.ensures.read c.in-Err-BadLine.line
    (λ bytes told. c.in-Err-BadLine.ensures.bad_line bytes told c.in-Err-BadLine.line (ap Err c.in-Err-BadLine.field-0-is))
    (λ bytes told. c.in-Err-BadLine.ensures.bad_left bytes told c.in-Err-BadLine.line (ap Err c.in-Err-BadLine.field-0-is))
    refl)

pub run_base-ran-requires-clause-some : goal.run_base-ran-requires-clause-some
run_base-ran-requires-clause-some g c κs within = (batch_some _ c.in-Ok.said c.in-Ok.ensures.read, batch_few _ c.in-Ok.said c.in-Ok.ensures.read)

pub returns-in-Ok-ran-clause-causes : goal.returns-in-Ok-ran-clause-causes
returns-in-Ok-ran-clause-causes g c =
    ended-done _ _ c.in-Ok-read_statements.ensures.later c.run_base-ran.ensures.sink_later c.in-Ok.said c.in-Ok.ensures.read
    (λ bytes told. IsScript-in_grammar bytes c.in-Ok-read_statements.placed.items (c.in-Ok-read_statements.ensures.spelled bytes told))
    (λ bytes told. c.in-Ok-read_statements.ensures.left bytes told)

pub returns-in-Ok-ran-clause-done_published : goal.returns-in-Ok-ran-clause-done_published
returns-in-Ok-ran-clause-done_published g c = λ bytes files before told files_told written given some is.
    let both : Some given ≡ Some c.in-Some.base = sym some ∙ c.in-Some.is in
    let same : given ≡ c.in-Some.base = cc in
    let serial = rw (c.in-Ok-ran.is, c.deref.ensures.value) at (c.run_base-ran.ensures.one_by_one files files_told before written) in
    let beside = rw (c.in-Ok-ran.is, c.deref.ensures.value) at (c.run_base-ran.ensures.published files files_told before written) in (
      c.run_base-ran.result.2,
      refl,
      record {
        read = c.in-Ok.said;
        say = c.in-Ok.ensures.read;
        placed = c.in-Ok-read_statements.placed.items;
        spelled = c.in-Ok-read_statements.ensures.spelled bytes told;
        one_by_one = λ one. let wrote = serial one in (wrote.0, wrote.1 ∙ ap (λ (b : BaseState). b.publisher) (c.base.view_is ∙ sym same));
        published = beside;
      },
    )

pub returns-clause-causes : goal.returns-clause-causes
returns-clause-causes g c =
    rw c.from.ensures
    (ended-stopped _ _ c.in-Ok-read_statements.ensures.later c.run_base-ran.ensures.sink_later c.in-Ok.said c.in-Ok.ensures.read c.in-Err.stopped
    (λ bytes told. IsScript-in_grammar bytes c.in-Ok-read_statements.placed.items (c.in-Ok-read_statements.ensures.spelled bytes told))
    (λ is. c.run_base-ran.ensures.sink_fault (c.in-Err.is ∙ ap Err is)))

pub returns-clause-stopped_with_base : goal.returns-clause-stopped_with_base
returns-clause-stopped_with_base g c = λ bytes files before told files_told written given some is.
    let both : Some given ≡ Some c.in-Some.base = sym some ∙ c.in-Some.is in
    let same : given ≡ c.in-Some.base = cc in
    let serial = rw (c.in-Err.is, c.deref.ensures.value) at (c.run_base-ran.ensures.stopped files files_told before written) in
    let beside = rw (c.in-Err.is, c.deref.ensures.value) at (c.run_base-ran.ensures.stopped_beside files files_told before written) in (
      c.run_base-ran.result.2,
      refl,
      record {
        read = c.in-Ok.said;
        say = c.in-Ok.ensures.read;
        placed = c.in-Ok-read_statements.placed.items;
        spelled = c.in-Ok-read_statements.ensures.spelled bytes told;
        one_by_one = λ one. let wrote = serial one in (wrote.0, wrote.1 ∙ ap (λ (b : BaseState). b.publisher) (c.base.view_is ∙ sym same));
        published = beside;
      },
    )

pub returns-clause-no_memory_with_base : goal.returns-clause-no_memory_with_base
returns-clause-no_memory_with_base g c = λ bytes files before told files_told written given some is.
    let both : Some given ≡ Some c.in-Some.base = sym some ∙ c.in-Some.is in
    let same : given ≡ c.in-Some.base = cc in
    let serial = rw (c.in-Err.is, c.deref.ensures.value) at (c.run_base-ran.ensures.stopped files files_told before written) in
    let beside = rw (c.in-Err.is, c.deref.ensures.value) at (c.run_base-ran.ensures.stopped_beside files files_told before written) in inr (
      c.run_base-ran.result.2,
      refl,
      record {
        read = c.in-Ok.said;
        say = c.in-Ok.ensures.read;
        placed = c.in-Ok-read_statements.placed.items;
        spelled = c.in-Ok-read_statements.ensures.spelled bytes told;
        one_by_one = λ one. let wrote = serial one in (wrote.0, wrote.1 ∙ ap (λ (b : BaseState). b.publisher) (c.base.view_is ∙ sym same));
        published = beside;
      },
    )
