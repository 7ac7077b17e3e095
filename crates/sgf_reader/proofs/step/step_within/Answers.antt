use Rattle.std.proofs.Common.{◌≡◌}
use Rattle.std.proofs.lemmas.Result.{IfOk-weaker}
use Rattle.sgf_reader.specs.declared.fault.FaultKind.TheVariants.{Unexpected}
use Rattle.sgf_reader.proofs.StepLemmas.{leads-to, leads-value, leads-node, fails-node, leads-open, fails-open, leads-close, fails-refused, same_error}
use Rattle.sgf_reader.proofs.step.step_within.Goals as goal

pub returns-in-To-clause-ok : goal.returns-in-To-clause-ok
returns-in-To-clause-ok c = leads-to _ _ _ _ _ (rw c.in-To.is at c.turn_at.ensures.scans) (rw c.in-To.is at c.turn_at.ensures.stays)

pub returns-in_ok-add_value-in-EndValue-clause-ok :
    goal.returns-in_ok-add_value-in-EndValue-clause-ok
returns-in_ok-add_value-in-EndValue-clause-ok c = leads-value _ _ _ _ _ _ _ (rw c.in-EndValue.is at c.turn_at.ensures.scans) (rw c.in-EndValue.is at c.turn_at.ensures.stays) (λ reading. c.in_ok-add_value-in-EndValue.ensures.ok reading)

pub returns-in_ok-begin_node-in-BeginNode-clause-ok :
    goal.returns-in_ok-begin_node-in-BeginNode-clause-ok
returns-in_ok-begin_node-in-BeginNode-clause-ok c =
    let made = c.in_ok-begin_node-in-BeginNode.ensures.ok in
    leads-node _ _ _ _ _ _ (rw c.in-BeginNode.is at c.turn_at.ensures.scans) made.0 made.1

pub returns-in_err-begin_node-in-BeginNode-clause-fault :
    goal.returns-in_err-begin_node-in-BeginNode-clause-fault
returns-in_err-begin_node-in-BeginNode-clause-fault c = λ f is.
    fails-node _ _ _ _ _ f (rw c.in-BeginNode.is at c.turn_at.ensures.scans) (c.begin_node.ensures.fault f (same_error _ _ _ _ c.from_residual-in_err-begin_node-in-BeginNode.ensures.1 c.in_err-begin_node-in-BeginNode.was is))

pub returns-in_ok-open_bracket-in-Open-clause-ok :
    goal.returns-in_ok-open_bracket-in-Open-clause-ok
returns-in_ok-open_bracket-in-Open-clause-ok c =
    let made = c.in_ok-open_bracket-in-Open.ensures.ok in
    leads-open _ _ _ _ _ (rw c.in-Open.is at c.turn_at.ensures.scans) made.0 made.1

pub returns-in_err-open_bracket-in-Open-clause-fault :
    goal.returns-in_err-open_bracket-in-Open-clause-fault
returns-in_err-open_bracket-in-Open-clause-fault c = λ f is.
    fails-open _ _ _ _ f (rw c.in-Open.is at c.turn_at.ensures.scans) (c.open_bracket.ensures.fault f (same_error _ _ _ _ c.from_residual-in_err-open_bracket-in-Open.ensures.1 c.in_err-open_bracket-in-Open.was is))

pub returns-in-Close-clause-ok : goal.returns-in-Close-clause-ok
returns-in-Close-clause-ok c =
    let means = rw c.in-Close.is at c.turn_at.ensures.scans in
    IfOk-weaker _ _ _ (λ next made. leads-close _ _ _ next _ _ means made.0 made.1) c.close_bracket.ensures.ok

pub returns-in-Refuse-clause-fault : goal.returns-in-Refuse-clause-fault
returns-in-Refuse-clause-fault c = λ f is.
    let same : f ≡ record { kind = Unexpected; at = c.args.at } = cc in
    rw same (fails-refused _ _ _ _ (rw c.in-Refuse.is at c.turn_at.ensures.scans))
