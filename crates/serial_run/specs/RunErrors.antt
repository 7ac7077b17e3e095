-- Why a run stops where a write answers an error, and its status then.
use Rattle.kb_edges.specs.declared.errors.SinkError.{SinkError}
use Rattle.kb_edges.specs.declared.errors.SinkError.TheVariants as sink
use Rattle.serial_run.specs.declared.statements.Stopped.{Stopped}
use Rattle.serial_run.specs.declared.statements.Stopped.TheVariants as stopped
use Rattle.serial_run.specs.declared.status.Status.{Status}
use Rattle.serial_run.specs.declared.status.Status.TheVariants as status

abbrev pub stopped_of : SinkError → Stopped
stopped_of sink.Failed = stopped.SinkFault
stopped_of sink.NoMemory = stopped.NoMemory

-- the status of a run that stopped amid its statements
abbrev pub status_of : Stopped → Status
status_of stopped.SinkFault = status.SinkFault
status_of stopped.NoMemory = status.NoMemory
