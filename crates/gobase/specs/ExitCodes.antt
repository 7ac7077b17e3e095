-- With which code the program ends.
use Rattle.std.specs.Prelude.{ℕ}
use Rattle.serial_run.specs.declared.status.Status.{Status}
use Rattle.serial_run.specs.declared.status.Status.TheVariants as status
use Rattle.run_audit.specs.declared.status.AuditStatus.{AuditStatus}
use Rattle.run_audit.specs.declared.status.AuditStatus.TheVariants as audit
use Rattle.gobase.specs.declared.Ended.{Ended}
use Rattle.gobase.specs.declared.Ended.TheVariants as ended

-- the exit code of the status of a run
abbrev pub exit_code : Status → ℕ
exit_code status.Done = 0
exit_code (status.BadScript line) = 1
exit_code status.BadWords = 2
exit_code status.ScriptUnread = 3
exit_code status.SinkFault = 4
exit_code status.NoMemory = 5

-- the exit code of the status of an audit
abbrev pub audit_exit_code : AuditStatus → ℕ
audit_exit_code audit.Done = 0
audit_exit_code (audit.BadScript line) = 1
audit_exit_code audit.BadWords = 2
audit_exit_code audit.ScriptUnread = 3
audit_exit_code audit.SinkFault = 4
audit_exit_code audit.NoMemory = 5
audit_exit_code audit.FolderUnread = 6

-- the exit code of the program
abbrev pub ended_exit_code : Ended → ℕ
ended_exit_code (ended.Run of_run) = exit_code of_run
ended_exit_code (ended.Audit of_audit) = audit_exit_code of_audit
