use Rattle.std.proofs.Common.{arith}
use Rattle.std.specs.Option.{option_map}
use Rattle.serial_run.specs.Steps.{kept_at}
use Rattle.serial_run.proofs.StatementLemmas.{leads-still, leads-wait, leaves-base}
use Rattle.serial_run.proofs.run_state.RunState.leave.Goals as goal

pub returns-in-Wait-clause-leads : goal.returns-in-Wait-clause-leads
returns-in-Wait-clause-leads c = λ rules files line text faults.
    let inside = c.self.inside in
    rw (c.in-Wait.is, ← c.self.view_is) (leads-wait rules files (kept_at inside.version (option_map (λ report. report.items) inside.waiting)) line text faults faults (omega arith))

pub returns-in_default-clause-leads : goal.returns-in_default-clause-leads
returns-in_default-clause-leads c = λ rules files line text faults.
    leads-still rules files c.args.self line text faults faults (omega arith) c.args.statement.now
    (leaves-base c.args.statement.now c.requires c.in_default.not-Wait)
