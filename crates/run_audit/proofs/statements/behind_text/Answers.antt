use Rattle.std.proofs.Common.{subst}
use Rattle.session_core.specs.Stores.{view_of}
use Rattle.run_audit.specs.Standing.{DepartsIn}
use Rattle.run_audit.proofs.StatementSteps.{over-one}
use Rattle.run_audit.proofs.statements.behind_text.Goals as goal

pub returns-clause-departs : goal.returns-clause-departs
returns-clause-departs g c = λ count is trees text after of.
    subst (λ t. DepartsIn c.args.left.now t count)
    (over-one c.args.placed.now.line (view_of c.args.version.now) trees c.args.session.now c.args.placed.now.statement c.in_ok-text.text.items text _ after c.in_ok-text.ensures of)
    (rw c.deref.ensures.value at (c.behind.ensures.departs count is))
