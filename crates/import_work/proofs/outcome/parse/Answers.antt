use Rattle.std.proofs.Common.{Err, ap, inl, inr}
use Rattle.import_work.proofs.RoomLemmas.{few_trees}
use Rattle.import_work.proofs.outcome.parse.Goals as goal

pub returns-in-Err-Fault : goal.returns-in-Err-Fault
returns-in-Err-Fault c =
    let first = c.in-Err-Fault.ensures.fault c.in-Err-Fault.fault (ap Err c.in-Err-Fault.field-0-is) in
    rw (c.refused.ensures, c.in-Err-Fault.field-0-is) (inl first)

pub returns-in-Err-Fault-build_flat : goal.returns-in-Err-Fault-build_flat
returns-in-Err-Fault-build_flat c =
    let first = c.in-Err-Fault-build_flat.ensures.fault c.in-Err-Fault-build_flat.fault (ap Err c.in-Err-Fault-build_flat.field-0-is) in
    rw (c.refused-in-Err-Fault-build_flat.ensures) (inr (c.in-Ok.collection, c.in-Ok.ensures.ok, first))

pub returns-in-Ok-build_flat : goal.returns-in-Ok-build_flat
returns-in-Ok-build_flat c = (
  (c.in-Ok.collection, c.in-Ok.ensures.ok, c.in-Ok-build_flat.ensures.no_fault, c.in-Ok-build_flat.ensures.ok),
  few_trees c.args.bytes.now c.in-Ok.collection c.in-Ok-build_flat.trees.items c.in-Ok.ensures.ok c.in-Ok-build_flat.ensures.ok,
)
