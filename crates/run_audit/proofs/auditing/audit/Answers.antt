use Rattle.std.proofs.Common.{Err, ap, arith, inr, refl}
use Rattle.serial_run.specs.Causes.{EdgeStates}
use Rattle.serial_run.proofs.ScriptLemmas.{IsScript-in_grammar}
use Rattle.serial_run.proofs.WordLemmas.{batch_some}
use Rattle.run_audit.specs.Causes.{FolderStates}
use Rattle.run_audit.proofs.AuditCauses.{audit-bad_script, audit-bad_words, audit-done, audit-folder_unread, audit-sink_fault}
use Rattle.run_audit.proofs.AuditedRecords.{audited-record, no-line, no-record, verdict-line}
use Rattle.run_audit.proofs.auditing.audit.Goals as goal

pub returns-in-Err-BadLine-clause-causes : goal.returns-in-Err-BadLine-clause-causes
returns-in-Err-BadLine-clause-causes g c =
    let out = c.args.out.now in
    let edges : EdgeStates = record {
      left = g.S.Source.left c.args.script.now;
      left_now = g.S.Source.left c.read_statements.new.script;
      source_faults = g.S.Source.faults c.args.script.now;
      source_faults_now = g.S.Source.faults c.read_statements.new.script;
      written = g.K.Sink.written out;
      written_now = g.K.Sink.written out;
      sink_faults = g.K.Sink.faults out;
      sink_faults_now = g.K.Sink.faults out;
    } in
    let folder : FolderStates = record {
      files = g.F.Folder.files c.args.folder;
      faults = g.F.Folder.faults c.args.folder;
      faults_now = g.F.Folder.faults c.args.folder;
    } in
    rw c.in-Err-BadLine.field-0-is
    (audit-bad_script _ edges folder c.in-Err-BadLine.ensures.later (omega arith) (omega arith) c.in-Ok.said.0.now c.in-Ok.said.1 c.in-Ok.ensures.read c.in-Err-BadLine.line
    (λ bytes told. c.in-Err-BadLine.ensures.bad_line bytes told c.in-Err-BadLine.line (ap Err c.in-Err-BadLine.field-0-is))
    (λ bytes told. c.in-Err-BadLine.ensures.bad_left bytes told c.in-Err-BadLine.line (ap Err c.in-Err-BadLine.field-0-is))
    refl)

pub verdict_of-requires-clause-some : goal.verdict_of-requires-clause-some
verdict_of-requires-clause-some g c κs within = batch_some _ c.in-Ok.said.1 c.in-Ok.ensures.read.lawful

pub verdict_of-requires-clause-few : goal.verdict_of-requires-clause-few
verdict_of-requires-clause-few g c κs within = rw c.deref.ensures.value c.in-Ok-read_statements.ensures.few

pub returns-in-Err-FolderUnread-clause-causes : goal.returns-in-Err-FolderUnread-clause-causes
returns-in-Err-FolderUnread-clause-causes g c =
    audit-folder_unread _ _ _ c.in-Ok-read_statements.ensures.later (omega arith) c.in-Err-FolderUnread.ensures.later c.in-Ok.said.0.now c.in-Ok.said.1 c.in-Ok.ensures.read
    (λ bytes told. IsScript-in_grammar bytes c.in-Ok-read_statements.placed.items (c.in-Ok-read_statements.ensures.spelled bytes told))
    (no-record _ _ c.in-Ok.said.0.now c.in-Ok.said.1 c.in-Ok.ensures.read (c.in-Err-FolderUnread.ensures.unread (ap Err c.in-Err-FolderUnread.field-0-is)))
    refl

pub returns-in-Ok-write-clause-causes : goal.returns-in-Ok-write-clause-causes
returns-in-Ok-write-clause-causes g c =
    audit-done _ _ _ c.in-Ok-read_statements.ensures.later c.in-Ok-write.ensures.later c.in-Ok-verdict_of.ensures.later c.in-Ok.said.0.now c.in-Ok.said.1 c.in-Ok.ensures.read
    (λ bytes told. IsScript-in_grammar bytes c.in-Ok-read_statements.placed.items (c.in-Ok-read_statements.ensures.spelled bytes told))
    (λ bytes told. c.in-Ok-read_statements.ensures.left bytes told)

pub returns-in-Err-SinkFault-clause-causes : goal.returns-in-Err-SinkFault-clause-causes
returns-in-Err-SinkFault-clause-causes g c =
    audit-sink_fault _ _ _ c.in-Ok-read_statements.ensures.later c.in-Err-SinkFault.ensures.later c.in-Ok-verdict_of.ensures.later c.in-Ok.said.0.now c.in-Ok.said.1 c.in-Ok.ensures.read
    (λ bytes told. IsScript-in_grammar bytes c.in-Ok-read_statements.placed.items (c.in-Ok-read_statements.ensures.spelled bytes told))
    (c.in-Err-SinkFault.ensures.failed (ap Err c.in-Err-SinkFault.field-0-is))

pub returns-in-Ok-write-clause-done : goal.returns-in-Ok-write-clause-done
returns-in-Ok-write-clause-done g c = λ bytes files before told files_told written is. record {
  line = _;
  audited =
      audited-record _ _ bytes files c.in-Ok.said.0.now c.in-Ok.said.1 c.in-Ok-read_statements.placed.items _ c.in-Ok.ensures.read (c.in-Ok-read_statements.ensures.spelled bytes told)
      ((rw c.deref.ensures.value at c.in-Ok-verdict_of.ensures.told) files files_told bytes (c.in-Ok-read_statements.ensures.spelled bytes told));
  written_is = c.in-Ok-write.ensures.whole before written;
}

pub returns-in-Ok-write-clause-one_line : goal.returns-in-Ok-write-clause-one_line
returns-in-Ok-write-clause-one_line g c = λ before written is. record {
  line = _;
  is_line = verdict-line c.in-Ok-verdict_of.verdict;
  written_is = c.in-Ok-write.ensures.whole before written;
}

pub returns-in-Err-SinkFault-clause-stopped : goal.returns-in-Err-SinkFault-clause-stopped
returns-in-Err-SinkFault-clause-stopped g c = λ bytes files before told files_told written is.
    let part = c.in-Err-SinkFault.ensures.part before written in record {
      line = _;
      audited =
          audited-record _ _ bytes files c.in-Ok.said.0.now c.in-Ok.said.1 c.in-Ok-read_statements.placed.items _ c.in-Ok.ensures.read (c.in-Ok-read_statements.ensures.spelled bytes told)
          ((rw c.deref.ensures.value at c.in-Ok-verdict_of.ensures.told) files files_told bytes (c.in-Ok-read_statements.ensures.spelled bytes told));
      text = part.0;
      prefix = part.1;
      written_is = part.2;
    }

pub returns-in-Err-SinkFault-clause-part_of_a_line : goal.returns-in-Err-SinkFault-clause-part_of_a_line
returns-in-Err-SinkFault-clause-part_of_a_line g c = λ before written is.
    let part = c.in-Err-SinkFault.ensures.part before written in record {
      line = _;
      is_line = verdict-line c.in-Ok-verdict_of.verdict;
      text = part.0;
      prefix = part.1;
      written_is = part.2;
    }

pub returns-in-Err-BadWords-clause-causes : goal.returns-in-Err-BadWords-clause-causes
returns-in-Err-BadWords-clause-causes g c = audit-bad_words _ _ _ (omega arith) (omega arith) (omega arith) (c.in-Err-BadWords.ensures.bad (ap Err c.in-Err-BadWords.field-0-is)) refl

pub returns-in-Err-NoMemory-clause-part_of_a_line : goal.returns-in-Err-NoMemory-clause-part_of_a_line
returns-in-Err-NoMemory-clause-part_of_a_line g c = λ before written ends. no-line before _ written

pub returns-in-Err-NoMemory-read_statements-clause-part_of_a_line : goal.returns-in-Err-NoMemory-read_statements-clause-part_of_a_line
returns-in-Err-NoMemory-read_statements-clause-part_of_a_line g c = λ before written ends. no-line before _ written

pub returns-in-Err-NoMemory-verdict_of-clause-part_of_a_line : goal.returns-in-Err-NoMemory-verdict_of-clause-part_of_a_line
returns-in-Err-NoMemory-verdict_of-clause-part_of_a_line g c = λ before written ends. no-line before _ written

pub returns-clause-no_memory : goal.returns-clause-no_memory
returns-clause-no_memory g c = λ bytes files before told files_told written is.
    let part = c.in-Err-NoMemory-write.ensures.part before written in
    inr (record {
      line = _;
      audited =
          audited-record _ _ bytes files c.in-Ok.said.0.now c.in-Ok.said.1 c.in-Ok-read_statements.placed.items _ c.in-Ok.ensures.read (c.in-Ok-read_statements.ensures.spelled bytes told)
          ((rw c.deref.ensures.value at c.in-Ok-verdict_of.ensures.told) files files_told bytes (c.in-Ok-read_statements.ensures.spelled bytes told));
      text = part.0;
      prefix = part.1;
      written_is = part.2;
    })

pub returns-clause-part_of_a_line : goal.returns-clause-part_of_a_line
returns-clause-part_of_a_line g c = λ before written ends.
    let part = c.in-Err-NoMemory-write.ensures.part before written in record {
      line = _;
      is_line = verdict-line c.in-Ok-verdict_of.verdict;
      text = part.0;
      prefix = part.1;
      written_is = part.2;
    }
